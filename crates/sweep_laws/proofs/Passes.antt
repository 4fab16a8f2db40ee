-- The invariants of the two passes over fit rows: S+g ≤ H, 2p ≤ S and y+p ≤ S on the way down, C' ≤ S on the way up.
use mathlib.Core.Path.{◌≡◌, refl}
use mathlib.Core.List.{List, [], ◌∷◌}
use Prim.Native.Nat.{ℕ, ◌+◌, ◌-◌, ◌*◌, ◌<◌, ◌≤◌, zero-le}
use native.Mathlib.Nat.{mul-le-mul_left, lt_of_mul-lt-mul_left}
use native.Mathlib.Omega.{arith}
use Rattle.rounding.specs.Nearest.{S, nearest}
use Rattle.rounding.proofs.Laws.{Rounds, rounds, nearest-le}
use Rattle.model.specs.Sweep.{Row, Passed, Above, top, under, H, y_numerator, pass, down, on_top, up}
use Rattle.sweep_laws.specs.Stable.{Fit, p_above, y_above, Stable}
use Rattle.sweep_laws.proofs.Accepted.{All, none, cons}

-- ---- the same four lines for every segment: p and y above segment 1 count as 0 and U', C' below the last as 0

-- the first of the C' below
abbrev pub first : List ℕ → ℕ
first [] = 0
first (x ∷ xs) = x

-- 0 divides to 0
pub none-rounded : (n : ℕ) → n ≡ 0 → nearest n S ≡ 0
none-rounded n e = omega (arith, nearest-le n S 0 (omega arith) (omega arith))

pub pivot-same : (above : Above) (r : Row) → H above r ≡ r.F - nearest (r.e * p_above above) S
pivot-same (top u') r = omega (arith, none-rounded (r.e * 0) (omega arith))
pivot-same (under d) r = refl

pub numerator-same : (above : Above) (r : Row) → y_numerator above r ≡ r.R + r.e * y_above above
numerator-same (top u') r = refl
numerator-same (under d) r = refl

pub pass_same : (above : Above) (r : Row) → pass above r ≡ pass (under (record { p = p_above above; y = y_above above })) r
pass_same above r = rw (pivot-same above r, numerator-same above r)

pub on_top-same : (d : Passed) (xs : List ℕ) → on_top d xs ≡ d.y + nearest (d.p * first xs) S
on_top-same d [] = omega (arith, none-rounded (d.p * 0) (omega arith))
on_top-same d (x ∷ xs) = refl

-- ---- downward

pub top-stable : (u' : ℕ) → u' ≤ S → Stable (top u')
top-stable u' h = record { half = omega arith; whole = omega arith }

-- a row under it: what is taken off F, the pivot H, y as a quotient of the same form in every segment, and what the row passes down
pub record Kept (above : Above) (r : Row) : Type 0 where
  pub less : nearest (r.e * p_above above) S ≤ r.e
  pub split : H above r + nearest (r.e * p_above above) S ≡ r.F
  pub pivot : S + r.g ≤ H above r
  pub rounded : Rounds (r.R + r.e * y_above above) (H above r) (pass above r).y
  pub stable : Stable (under (pass above r))

-- y + p ≤ S: both quotients and the one in H multiplied out
whole-fits : (F e g R pa ya H p y q : ℕ) → 0 < H → Rounds (e * pa) S q → H + q ≡ F → Rounds (g * S) H p → Rounds (R + e * ya) H y → ya + pa ≤ S →
    R + S + (e + g) * S ≤ F * S → y + p ≤ S
whole-fits F e g R pa ya H p y q pos hq hH hp hy whole room =
    let l : y + p < S + 1 = lt_of_mul-lt-mul_left H (omega (arith, mul-le-mul_left e whole)) in
    omega arith

pub kept : (above : Above) (r : Row) → Fit r → Stable above → Kept above r
kept above r fit stable = record {
  less = less;
  split = split;
  pivot = pivot;
  rounded = rounded;
  stable = record {
    half = omega (arith, nearest-le (r.g * S) (H above r) 536870912 pos (omega (arith, pivot, fit.small)));
    whole =
        whole-fits r.F r.e r.g r.R (p_above above) (y_above above) (H above r) _ _ _ pos
        (rounds _ S (omega arith)) split (rounds _ _ pos) rounded stable.whole fit.room;
  };
}
  where
    less : nearest (r.e * p_above above) S ≤ r.e
    less = nearest-le _ S r.e (omega arith) (omega (arith, mul-le-mul_left r.e stable.half))

    split : H above r + nearest (r.e * p_above above) S ≡ r.F
    split = omega (arith, pivot-same above r, less, fit.wide)

    pivot : S + r.g ≤ H above r
    pivot = omega (arith, split, less, fit.wide)

    pos : 0 < H above r
    pos = omega (arith, pivot)

    rounded : Rounds (r.R + r.e * y_above above) (H above r) (pass above r).y
    rounded = rw (← (numerator-same above r)) (rounds (y_numerator above r) (H above r) pos)

-- the downward pass over fit rows
pub down-stable : (above : Above) {rs : List Row} → Stable above → All Fit rs → All (λ d. Stable (under d)) (down above rs)
down-stable above stable none = none
down-stable above stable (cons {x = r} fit fits) =
    let k = kept above r fit stable in
    cons k.stable (down-stable (under (pass above r)) k.stable fits)

-- ---- upward

-- y + (p × C' below)/S is within one whole
pub on_top-most : (d : Passed) (x : ℕ) → Stable (under d) → x ≤ S → d.y + nearest (d.p * x) S ≤ S
on_top-most d x stable h =
    omega (arith, stable.whole, nearest-le (d.p * x) S d.p (omega arith) (omega (arith, mul-le-mul_left d.p h)))

-- the first C' of the upward pass
pub first-most : {ds : List Passed} → All (λ d. Stable (under d)) ds → first (up ds) ≤ S
first-most none = zero-le
first-most (cons {x = d} {xs = ds} stable stables) = rw (on_top-same d (up ds)) (on_top-most d (first (up ds)) stable (first-most stables))

-- every C' of the upward pass
pub up-most : {ds : List Passed} → All (λ d. Stable (under d)) ds → All (λ x. x ≤ S) (up ds)
up-most none = none
up-most (cons {x = d} {xs = ds} stable stables) = cons (first-most (cons {x = d} {xs = ds} stable stables)) (up-most stables)

-- ---- what the code's products and sums come to

-- one row on the way down
pub record RowFits (above : Above) (r : Row) : Type 0 where
  pub ep : r.e * p_above above ≤ S * S
  pub less : nearest (r.e * p_above above) S ≤ r.F
  pub pivot : S ≤ H above r
  pub g_s : r.g * S ≤ S * S
  pub numerator : r.R + r.e * y_above above ≤ 2 * (S * S)

pub row_fits : (above : Above) (r : Row) → Fit r → Stable above → RowFits above r
row_fits above r fit stable =
    let k = kept above r fit stable in
    record {
      ep = omega (arith, fit.wide, fit.most, mul-le-mul_left r.e stable.half);
      less = omega (arith, fit.wide, k.less);
      pivot = omega (arith, k.pivot);
      g_s = omega (arith, fit.small);
      numerator = omega (arith, fit.room, fit.most, mul-le-mul_left r.e stable.whole);
    }

-- one row on the way up
pub product-fits : (d : Passed) (x : ℕ) → Stable (under d) → x ≤ S → d.p * x ≤ S * S
product-fits d x stable h = omega (arith, stable.half, mul-le-mul_left d.p h)
