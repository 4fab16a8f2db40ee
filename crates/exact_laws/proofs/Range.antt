-- Exact figures stay in the range of concentrations. A river that stands at the highest one everywhere has left sides of no less than
-- its right sides, and one that stands at 0 of no more, so that the comparison principle holds the exact river between the two.
use mathlib.Core.List.{List, [], ◌∷◌, ◌++◌, map}
use Prim.Native.Nat.{ℕ, ◌+◌, ◌-◌, ◌*◌, ◌<◌, ◌≤◌}
use native.Mathlib.Nat.{mul-le-mul_left, mul-le-mul_right}
use native.Mathlib.Omega.{arith}
use Rattle.fractions.specs.Fractions.{Fraction, whole}
use Rattle.fractions.proofs.Differences.{Difference, natural, ◌⊞◌, ◌⊟◌, ◌⊡◌, UpTo}
use Rattle.fractions.proofs.Over.{Over, over-whole}
use Rattle.fractions.proofs.Bounds.{most-up-to, up-to-most, zero-up-to, up_to_zero}
use Rattle.rounding.specs.Nearest.{S}
use Rattle.model.specs.Ranges.{highest}
use Rattle.model.specs.Equations.{Pair, sum_t, sum_v}
use Rattle.model.specs.ExactRiver.{ExactFigures, Along}
use Rattle.sweep_laws.specs.Accepted.{Accepted}
use Rattle.sweep_laws.proofs.Accepted.{All}
use Rattle.exact_laws.specs.Close.{InRange, FiguresInRange}
use Rattle.exact_laws.proofs.Sides.{Differences, AllUpTo, below}
use Rattle.exact_laws.proofs.CommonDenominator.{AllOver, common, ends, split}
use Rattle.exact_laws.proofs.Rivers.{Rows, last, next, LeftUpTo, RightUpTo, all-steady, apart, exact-rows}

-- B in channel, storage and sediment
abbrev flat : ℕ → Differences
flat B = record { c = natural B; z = natural B; w = natural B }

-- in each segment of a list
abbrev flats : ℕ → List Differences → List Differences
flats B fs = map (λ f. flat B) fs

-- what stands below a segment there is at most B, and from 0
below-flats : (B : ℕ) (fs : List Differences) → UpTo 0 (below (flats B fs)) (natural B)
below-flats B [] = omega arith
below-flats B (f ∷ fs) = omega arith

flats-below : (fs : List Differences) → UpTo 0 (natural 0) (below (flats 0 fs))
flats-below [] = omega arith
flats-below (f ∷ fs) = omega arith

-- ---- one segment

-- the right sides of the river at B are at most its left sides, whatever b and b' up to B stand below
channel-falls : (B r e g l a s r' e' g' l' a' s' source : ℕ) (b b' : Difference) → r + e + g + a + s + l ≤ S →
    S + e' + g' + a' + s' + l' ≤ r' → source ≤ (l + l') * B → UpTo 0 b (natural B) → UpTo 0 b' (natural B) →
    UpTo 0 (r ⊡ natural B ⊞ e ⊡ natural B ⊞ g ⊡ b ⊞ a ⊡ natural B ⊞ s ⊡ natural B ⊞ natural source)
    (r' ⊡ natural B ⊟ e' ⊡ natural B ⊟ g' ⊡ b' ⊟ a' ⊡ natural B ⊟ s' ⊡ natural B)
channel-falls B r e g l a s r' e' g' l' a' s' source b b' sum sum' h hb hb' = record {
  most = omega (arith, mul-le-mul_left g hb.most, mul-le-mul_left g' hb'.most, mul-le-mul_right B sum, mul-le-mul_right B sum');
}

store-falls : (B r b m r' b' m' source : ℕ) → r + b + m ≤ S → S + b' + m' ≤ r' → source ≤ (m + m') * B →
    UpTo 0 (r ⊡ natural B ⊞ b ⊡ natural B ⊞ natural source) (r' ⊡ natural B ⊟ b' ⊡ natural B)
store-falls B r b m r' b' m' source sum sum' h = record { most = omega (arith, mul-le-mul_right B sum, mul-le-mul_right B sum') }

-- the three equations
row-falls : (D : ℕ) (x : Pair) (b b' : Difference) → Accepted x → UpTo 0 b (natural (highest * D)) → UpTo 0 b' (natural (highest * D)) →
    RightUpTo D 0 x (natural (highest * D)) b' (natural (highest * D)) b (flat (highest * D)) (flat (highest * D))
row-falls D x b b' ok hb hb' =
    let B = highest * D in
    let n = x.old in
    let n' = x.new in
    let z = store-falls B (S - n.h) n.h 0 (S + n'.h) n'.h 0 0 (omega (arith, ok.old.h)) (omega arith) (omega arith) in
    record {
      each = record {
        c = channel-falls B (S - sum_t n) n.e n.g n.l n.a n.s (S + sum_t n') n'.e n'.g n'.l n'.a n'.s _ b b'
            (omega (arith, ok.old.t)) (omega arith) (source (n.l + n'.l) ok.cl) hb hb';
        z = store-falls B (S - sum_v n) n.b n.m (S + sum_v n') n'.b n'.m _
            (omega (arith, ok.old.v)) (omega arith) (source (n.m + n'.m) ok.cb);
        w = record { most = omega (arith, z.most) };
      };
    }
  where
    source : (m : ℕ) {c : ℕ} → c ≤ highest → m * c * D ≤ m * (highest * D)
    source m h = omega (arith, mul-le-mul_left m (mul-le-mul_right D h))

-- the left sides of the river at 0 are at most its right sides, whatever b and b' from 0 stand below
row-holds : (D : ℕ) (x : Pair) (b b' : Difference) → UpTo 0 (natural 0) b → UpTo 0 (natural 0) b' →
    LeftUpTo D 0 x (natural 0) b' (natural 0) b (flat 0) (flat 0)
row-holds D x b b' hb hb' = record {
  each = record {
    c = record { most = omega (arith, mul-le-mul_left x.old.g hb.most, mul-le-mul_left x.new.g hb'.most) };
    z = record { most = omega arith };
    w = record { most = omega arith };
  };
}

-- ---- all segments

-- the river at B and the river at 0, as long as an exact one
rows-fall : {D k : ℕ} {above' above : Difference} {xs : List Pair} {os ns : List Differences} → All Accepted xs →
    Rows (LeftUpTo D k) above' above xs os ns →
    Rows (RightUpTo D 0) (natural (highest * D)) (natural (highest * D)) xs (flats (highest * D) os) (flats (highest * D) ns)
rows-fall All.none last = last
rows-fall {D} (All.cons {x} ok oks) (next {fs = os} {fs' = ns} row rows) =
    next (row-falls D x _ _ ok (below-flats (highest * D) os) (below-flats (highest * D) ns)) (rows-fall oks rows)

rows-hold : {D k : ℕ} {above' above : Difference} {xs : List Pair} {os ns : List Differences} → Rows (LeftUpTo D k) above' above xs os ns →
    Rows (LeftUpTo D 0) (natural 0) (natural 0) xs (flats 0 os) (flats 0 ns)
rows-hold last = last
rows-hold {D} (next {x} {fs = os} {fs' = ns} row rows) = next (row-holds D x _ _ (flats-below os) (flats-below ns)) (rows-hold rows)

-- ---- the range of fractions, over a common denominator

module _ {D : ℕ} (h : 0 < D) where
  -- a figure in range is at most the highest one and not below 0, over D
  high : {f : Fraction} {d : Difference} → Over D f d → InRange f → UpTo 0 d (natural (highest * D))
  high o r = most-up-to h o highest r.most

  low : {f : Fraction} {d : Difference} → Over D f d → InRange f → UpTo 0 (natural 0) d
  low o r = zero-up-to h o r.least

  -- and back
  in_range : {f : Fraction} {d : Difference} → Over D f d → UpTo 0 (natural 0) d → UpTo 0 d (natural (highest * D)) → InRange f
  in_range o l m = record { least = up_to_zero h o l; most = up-to-most h o highest m }

  -- in every segment
  all-high : {qs : List ExactFigures} {fs : List Differences} → AllOver D qs fs → All FiguresInRange qs → AllUpTo 0 fs (flats (highest * D) fs)
  all-high AllOver.none All.none = AllUpTo.none
  -- in every segment
  all-high (AllOver.cons o os) (All.cons r rs) =
      AllUpTo.cons (record { c = high o.c r.c; z = high o.z r.z; w = high o.w r.w }) (all-high os rs)

  all-low : {qs : List ExactFigures} {fs : List Differences} → AllOver D qs fs → All FiguresInRange qs → AllUpTo 0 (flats 0 fs) fs
  all-low AllOver.none All.none = AllUpTo.none
  all-low (AllOver.cons o os) (All.cons r rs) =
      AllUpTo.cons (record { c = low o.c r.c; z = low o.z r.z; w = low o.w r.w }) (all-low os rs)

  -- and back
  all-in-range : {qs : List ExactFigures} {fs : List Differences} → AllOver D qs fs → AllUpTo 0 (flats 0 fs) fs →
      AllUpTo 0 fs (flats (highest * D) fs) → All FiguresInRange qs
  all-in-range AllOver.none AllUpTo.none AllUpTo.none = All.none
  -- and back
  all-in-range (AllOver.cons o os) (AllUpTo.cons l ls) (AllUpTo.cons m ms) =
      All.cons
      (record { c = in_range o.c l.c m.c; z = in_range o.z l.z m.z; w = in_range o.w l.w m.w })
      (all-in-range os ls ms)

-- a concentration
pub whole_in_range : {u : ℕ} → u ≤ highest → InRange (whole u)
whole_in_range {u} l = in_range (omega arith) (over-whole 1 u) (omega arith) (omega arith)

-- figures in range before a step, and above the river, give figures in range after it
pub range : {above' above : Fraction} {xs : List Pair} {old new : List ExactFigures} → All Accepted xs → InRange above' → InRange above →
    All FiguresInRange old → Along above' above xs old new → All FiguresInRange new
range {above'} {above} {xs} {old} {new} oks r' r olds solves =
    let c = common (ends above' above ∷ old ++ new) in
    go c.D c.above c.spread.over
  where
    go : (D : ℕ) → 0 < D → {fs : List Differences} → AllOver D (ends above' above ∷ old ++ new) fs → All FiguresInRange new
    go D h (AllOver.cons a rest) =
        let parts = split old rest in
        let os = parts.0.over in
        let ns = parts.1.over in
        let rows = exact-rows solves a.c a.z os ns in
        all-in-range h ns
        (apart 0 (all-steady xs) (rows-hold rows.0) rows.1 (low h a.c r') (low h a.z r) (all-low h os olds) (omega arith))
        (apart 0 (all-steady xs) rows.0 (rows-fall oks rows.0) (high h a.c r') (high h a.z r) (all-high h os olds) (omega arith))
