-- What the sweep solves. C' of a row, C' above and C' below, before anything is cut at the highest concentration:
-- 2F·C' = 2R + 2e·C'above + 2g·C'below, up to 3F + C' + e either way.
use mathlib.Core.Path.{◌≡◌}
use mathlib.Core.List.{List, [], ◌∷◌}
use Prim.Native.Nat.{ℕ, ◌+◌, ◌*◌, ◌<◌, ◌≤◌}
use native.Mathlib.Nat.{mul-le-mul_left}
use native.Mathlib.Omega.{arith}
use Rattle.rounding.specs.Nearest.{S, nearest}
use Rattle.rounding.proofs.Laws.{Rounds, rounds, by}
use Rattle.model.specs.Sweep.{Row, Above, top, under, H, pass, down, up}
use Rattle.sweep_laws.specs.Stable.{Fit, p_above, y_above, Stable}
use Rattle.sweep_laws.proofs.Accepted.{All}
use Rattle.sweep_laws.proofs.Passes.{first, none-rounded, on_top-same, top-stable, Kept, kept, on_top-most, first-most, down-stable}

-- x solves its row with the neighbours xa above and xb below, up to the roundings of the sweep
pub record Solves (r : Row) (xa x xb : ℕ) : Type 0 where
  pub most : x ≤ S
  pub high : 2 * (r.F * x) ≤ 2 * r.R + 2 * (r.e * xa) + 2 * (r.g * xb) + (3 * r.F + x + r.e)
  pub low : 2 * r.R + 2 * (r.e * xa) + 2 * (r.g * xb) ≤ 2 * (r.F * x) + (3 * r.F + x + r.e)

-- every row of a river with its own neighbours: `xa` stands above the first, 0 below the last
pub data Near : (xa : ℕ) → List Row → List ℕ → Type 0 where
  none : {xa : ℕ} → Near xa [] []
  row : {xa x : ℕ} {r : Row} {rs : List Row} {xs : List ℕ} → Solves r xa x (first xs) → Near x rs xs → Near xa (r ∷ rs) (x ∷ xs)

-- one row: its four quotients multiplied out
module _ (F e g R pa ya xb H p y q₁ q₂ q₃ : ℕ) (h₁ : Rounds (e * pa) S q₁) (pivot : H + q₁ ≡ F) (hp : Rounds (g * S) H p) (hy : Rounds (R + e * ya) H y)
    (h₂ : Rounds (p * xb) S q₂) (h₃ : Rounds (pa * (y + q₂)) S q₃) (hb : xb ≤ S) where
  row-high : 2 * (F * (y + q₂)) ≤ 2 * R + 2 * (e * (ya + q₃)) + 2 * (g * xb) + (3 * F + (y + q₂) + e)
  row-high = rw (← pivot) (omega (arith, by (y + q₂) h₁, by e h₃, by H h₂, by xb hp, mul-le-mul_left H hb))

  row_low : 2 * R + 2 * (e * (ya + q₃)) + 2 * (g * xb) ≤ 2 * (F * (y + q₂)) + (3 * F + (y + q₂) + e)
  row_low = rw (← pivot) (omega (arith, by (y + q₂) h₁, by e h₃, by H h₂, by xb hp, mul-le-mul_left H hb))

-- C' of a segment from y, p and C' below
abbrev raised : ℕ → ℕ → ℕ → ℕ
raised y p below = y + nearest (p * below) S

row-solves : (above : Above) (r : Row) (xb : ℕ) → Kept above r → xb ≤ S →
    let x = raised (pass above r).y (pass above r).p xb in Solves r (raised (y_above above) (p_above above) x) x xb
row-solves above r xb k hb =
    let pos : 0 < H above r = omega (arith, k.pivot) in
    let whole : (n : ℕ) → Rounds n S (nearest n S) = λ n. rounds n S (omega arith) in
    record {
      most = on_top-most (pass above r) xb k.stable hb;
      high =
          row-high r.F r.e r.g r.R (p_above above) (y_above above) xb (H above r) _ _ _ _ _
          (whole _) k.split (rounds _ _ pos) k.rounded (whole _) (whole _) hb;
      low =
          row_low r.F r.e r.g r.R (p_above above) (y_above above) xb (H above r) _ _ _ _ _
          (whole _) k.split (rounds _ _ pos) k.rounded (whole _) (whole _) hb;
    }

below-solves : (above : Above) {rs : List Row} → Stable above → All Fit rs →
    let xs = up (down above rs) in Near (raised (y_above above) (p_above above) (first xs)) rs xs
below-solves above stable All.none = none
below-solves above stable (All.cons {x = r} {xs = rs} fit fits) =
    let k = kept above r fit stable in
    let xs = up (down (under (pass above r)) rs) in
    rw (on_top-same (pass above r) xs)
    (row (row-solves above r (first xs) k (first-most (down-stable (under (pass above r)) k.stable fits))) (below-solves (under (pass above r)) k.stable fits))

-- the sweep of a river of fit rows, U' standing above segment 1
pub sweep-solves : (u' : ℕ) {rs : List Row} → u' ≤ S → All Fit rs → Near u' rs (up (down (top u') rs))
sweep-solves u' {rs} h fits =
    let xs = up (down (top u') rs) in
    let e : u' + nearest (0 * first xs) S ≡ u' = omega (arith, none-rounded (0 * first xs) (omega arith)) in
    rw e at (below-solves (top u') (top-stable u' h) fits)
