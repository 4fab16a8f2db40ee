-- The comparison principle for the coupled equations: where no left side exceeds the other river's by more than S × G, and the figure
-- above by no more than G, no figure exceeds the other's by more than G. No maximum is taken: an excess over G in one segment that is
-- not smaller than the one above it is larger in the segment below, and below the last segment both figures are 0.
use mathlib.Core.List.{List, [], ◌∷◌}
use Prim.Native.Nat.{ℕ, suc, ◌+◌, ◌*◌, ◌<◌, ◌≤◌}
use native.Mathlib.Nat.{mul-le-mul_left, lt_of_mul-lt-mul_left, le_of_mul-le-mul_left, lt_of_not-le, le_dest}
use native.Mathlib.Decide.{dec_le}
use native.Mathlib.Omega.{arith}
use mathlib.Core.Path.{◌≡◌}
use Rattle.fractions.proofs.Differences.{Difference, ◌⊞◌, ◌⊟◌, ◌⊡◌, UpTo}
use Rattle.rounding.specs.Nearest.{S}
use Rattle.model.specs.HalfStep.{Numbers}
use Rattle.model.specs.Equations.{Pair, sum_t, sum_v}
use Rattle.exact_laws.proofs.Sides.{Differences, EachUpTo, AllUpTo, none, cons, below, left}

-- two rivers u and v with the same numbers, the new ones of xs, and ua and va above: the left sides of u are at most those of v, up
-- to S × G, in every segment
pub data Compared (G : ℕ) : (ua va : Difference) → List Pair → (us vs : List Differences) → Type 0 where
  last : {ua va : Difference} → Compared G ua va [] [] []
  next : {ua va : Difference} {x : Pair} {xs : List Pair} {u v : Differences} {us vs : List Differences} →
      EachUpTo (S * G) (left x.new ua (below us) u) (left x.new va (below vs) v) → Compared G u.c v.c xs us vs →
      Compared G ua va (x ∷ xs) (u ∷ us) (v ∷ vs)

-- ---- what one row says of the excess of u over v

-- d is more than G
abbrev Exceeds : ℕ → Difference → Type 0
Exceeds G d = d.minus + G < d.plus

-- (b − a)(d − c) ≥ 0
cross : {a b c d : ℕ} → a ≤ b → c ≤ d → a * d + b * c ≤ a * c + b * d
cross {a} {b} {c} {d} h k = go (le_dest h) (le_dest k)
  where
    go : (x : ℕ) × (a + x ≡ b) → (y : ℕ) × (c + y ≡ d) → a * d + b * c ≤ a * c + b * d
    go (x, p) (y, q) = rw (← p, ← q) (omega arith)

-- where the channel's excess C is at most G, so is that of storage or sediment
pub store-follows : {G : ℕ} (t b : ℕ) {uz vz uc vc : Difference} → S + b ≤ t → UpTo G uc vc →
    UpTo (S * G) (t ⊡ uz ⊟ b ⊡ uc) (t ⊡ vz ⊟ b ⊡ vc) → UpTo G uz vz
store-follows {G} t b wide c row = record {
  most = le_of_mul-le-mul_left {k = t} (omega (arith, row.most, mul-le-mul_left b c.most, mul-le-mul_left G wide)) (omega arith);
}

-- where C is more than G, that of storage or sediment is no larger than C
store-lags : (t b G : ℕ) (uz vz uc vc : Difference) → S + b ≤ t → Exceeds G (uc ⊟ vc) → UpTo (S * G) (t ⊡ uz ⊟ b ⊡ uc) (t ⊡ vz ⊟ b ⊡ vc) →
    UpTo 0 (uz ⊟ vz) (uc ⊟ vc)
store-lags t b G uz vz uc vc wide over row = lag (uz ⊟ vz) (uc ⊟ vc) over (omega (arith, row.most))
  where
    lag : (Z C : Difference) → Exceeds G C → t * Z.plus + b * C.minus ≤ t * Z.minus + b * C.plus + S * G → UpTo 0 Z C
    lag Z C over row =
        let c : C.minus ≤ C.plus = omega arith in
        let l : Z.plus + C.minus < suc (Z.minus + C.plus) = lt_of_mul-lt-mul_left t (omega (arith, cross wide c)) in
        omega arith

-- where C is more than G and not less than the excess A above it, the excess B below is more than C
channel-grows : (t e g a s G : ℕ) (A B C Z W : Difference) → S + (e + g + a + s) ≤ t → Exceeds G C → UpTo 0 A C → UpTo 0 Z C → UpTo 0 W C →
    UpTo (S * G) (t ⊡ C) (e ⊡ A ⊞ g ⊡ B ⊞ (a ⊡ Z ⊞ s ⊡ W)) → Exceeds 0 (B ⊟ C)
channel-grows t e g a s G A B C Z W wide over ha hz hw row = pick (dec_le (C.minus + B.plus) (C.plus + B.minus))
  where
    pick : Dec (C.minus + B.plus ≤ C.plus + B.minus) → Exceeds 0 (B ⊟ C)
    pick (no n) = omega (arith, lt_of_not-le n)
    pick (yes n) =
        let c : C.minus ≤ C.plus = omega arith in
        absurd (omega (
          arith,
          row.most,
          mul-le-mul_left e ha.most,
          mul-le-mul_left g n,
          mul-le-mul_left a hz.most,
          mul-le-mul_left s hw.most,
          cross wide c,
        ))

-- the excess of one left side over the other is the left side of the excess: aZ and sW first, then the rest
moved-stores : {k : ℕ} (a s : ℕ) (x y uz vz uw vw : Difference) → UpTo k (x ⊟ a ⊡ uz ⊟ s ⊡ uw) (y ⊟ a ⊡ vz ⊟ s ⊡ vw) →
    UpTo k x (y ⊞ (a ⊡ (uz ⊟ vz) ⊞ s ⊡ (uw ⊟ vw)))
moved-stores a s x y uz vz uw vw h = omega arith

moved-neighbours : {k : ℕ} (t e g : ℕ) (r ua va ub vb uc vc : Difference) →
    UpTo k (t ⊡ uc ⊟ e ⊡ ua ⊟ g ⊡ ub) (t ⊡ vc ⊟ e ⊡ va ⊟ g ⊡ vb ⊞ r) → UpTo k (t ⊡ (uc ⊟ vc)) (e ⊡ (ua ⊟ va) ⊞ g ⊡ (ub ⊟ vb) ⊞ r)
moved-neighbours t e g r ua va ub vb uc vc h = omega arith

-- one row: where the excess of its channel figure is more than G and not less than the one above, the one below is more still
row-grows : (G : ℕ) (n : Numbers) (ua va ub vb : Difference) (u v : Differences) → EachUpTo (S * G) (left n ua ub u) (left n va vb v) →
    Exceeds G (u.c ⊟ v.c) → UpTo 0 (ua ⊟ va) (u.c ⊟ v.c) → Exceeds 0 (ub ⊟ vb ⊟ (u.c ⊟ v.c))
row-grows G n ua va ub vb u v row over above =
    channel-grows (S + sum_t n) n.e n.g n.a n.s G (ua ⊟ va) (ub ⊟ vb) (u.c ⊟ v.c) (u.z ⊟ v.z) (u.w ⊟ v.w)
    (omega arith) over above
    (store-lags (S + sum_v n) n.b G u.z v.z u.c v.c (omega arith) over row.z)
    (store-lags (S + n.h) n.h G u.w v.w u.c v.c (omega arith) over row.w)
    (moved-neighbours (S + sum_t n) n.e n.g _ ua va ub vb u.c v.c
    (moved-stores n.a n.s _ _ u.z v.z u.w v.w row.c))

-- ---- all rows

-- an excess over G in the first segment that is not less than the one above it is absurd
climb : {G : ℕ} {ua va : Difference} {xs : List Pair} {us vs : List Differences} → Compared G ua va xs us vs → Exceeds G (below us ⊟ below vs) →
    UpTo 0 (ua ⊟ va) (below us ⊟ below vs) → ⊥
climb last over above = omega arith
climb {G} (next {ua} {va} {x} {u} {v} {us} {vs} row rows) over above =
    let l = row-grows G x.new ua va (below us) (below vs) u v row over above in
    climb rows (omega arith) (omega arith)

-- the comparison principle
pub compare : {G : ℕ} {ua va : Difference} {xs : List Pair} {us vs : List Differences} → UpTo G ua va → Compared G ua va xs us vs → AllUpTo G us vs
compare above last = none
compare {G} above (next {x} {u} {v} row rows) =
    let n = x.new in
    let c : UpTo G u.c v.c = pick (dec_le (u.c.plus + v.c.minus) (u.c.minus + v.c.plus + G)) in
    cons
    (record {
      c = c;
      z = store-follows (S + sum_v n) n.b (omega arith) c row.z;
      w = store-follows (S + n.h) n.h (omega arith) c row.w;
    })
    (compare c rows)
  where
    pick : Dec (u.c.plus + v.c.minus ≤ u.c.minus + v.c.plus + G) → UpTo G u.c v.c
    pick (yes l) = omega arith
    pick (no n) = let l = lt_of_not-le n in absurd (climb (next {x = x} row rows) l (omega arith))
