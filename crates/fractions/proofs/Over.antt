-- A fraction as a difference of natural numbers over a common denominator: sums, differences and multiples of fractions are those of
-- the differences, and two fractions are the same figure where their differences are.
use mathlib.Core.Path.{◌≡◌, ap}
use Prim.Native.Nat.{ℕ, ◌+◌, ◌*◌, ◌<◌}
use native.Mathlib.Nat.{mul-pos, eq_of_mul-eq-mul_right}
use native.Mathlib.Omega.{arith}
use lib.IntN.{pos, neg_ℤ, ◌-ℤ◌, ◌*ℤ◌}
use Rattle.fractions.specs.Fractions.{Fraction, Same, whole, ◌⊕◌, ◌⊖◌, ◌·◌}
use Rattle.fractions.proofs.Whole.{positive, negative, equal, equal-parts, sum-parts, positive-neg, negative-neg, positive-times, negative-times, positive-times-left, negative-times-left}
use Rattle.fractions.proofs.Differences.{Difference, natural, ◌⊞◌, ◌⊟◌, ◌⊡◌, UpTo}

-- f is d over D, the denominators multiplied out
pub record Over (D : ℕ) (f : Fraction) (d : Difference) : Type 0 where
  pub parts : positive f.num * D + d.minus * f.den ≡ negative f.num * D + d.plus * f.den

-- an equation, k times
pub times : {a b : ℕ} (k : ℕ) → a ≡ b → a * k ≡ b * k
times k e = ap (λ (t : ℕ). t * k) e

-- f + g is d + e over D, f − g is d − e, kf is kd, and a whole number x is xD
pub over-sum : {D : ℕ} {f g : Fraction} {d e : Difference} → Over D f d → Over D g e → Over D (f ⊕ g) (d ⊞ e)
over-sum {D} {f} {g} x y =
    let s = sum-parts (f.num *ℤ pos g.den) (g.num *ℤ pos f.den) in
    let s' = times D (simp (positive-times, negative-times) at s) in
    record { parts = omega (arith, s', times g.den x.parts, times f.den y.parts) }

pub over-difference : {D : ℕ} {f g : Fraction} {d e : Difference} → Over D f d → Over D g e → Over D (f ⊖ g) (d ⊟ e)
over-difference {D} {f} {g} x y =
    let s = sum-parts (f.num *ℤ pos g.den) (neg_ℤ (g.num *ℤ pos f.den)) in
    let s' = times D (simp (positive-neg, negative-neg, positive-times, negative-times) at s) in
    record { parts = omega (arith, s', times g.den x.parts, times f.den y.parts) }

pub over-multiple : {D : ℕ} {f : Fraction} {d : Difference} (k : ℕ) → Over D f d → Over D (k · f) (k ⊡ d)
over-multiple k x = record { parts = simp (positive-times-left, negative-times-left) (omega (arith, times k x.parts)) }

pub over-whole : (D x : ℕ) → Over D (whole x) (natural (x * D))
over-whole D x = record { parts = omega arith }

-- a fraction over its own denominator
abbrev pub own : Fraction → Difference
own f = record { plus = positive f.num; minus = negative f.num }

pub over-own : (f : Fraction) → Over f.den f (own f)
over-own f = record { parts = omega arith }

-- the fraction d over D
abbrev pub quotient : (D : ℕ) → 0 < D → Difference → Fraction
quotient D h d = record { num = pos d.plus -ℤ pos d.minus; den = D; above = h }

pub over_quotient : (D : ℕ) (h : 0 < D) (d : Difference) → Over D (quotient D h d) d
over_quotient D h d =
    let s = simp (positive-neg, negative-neg) at (sum-parts (pos d.plus) (neg_ℤ (pos d.minus))) in
    record { parts = omega (arith, times D s) }

-- over a multiple of the denominator
pub over-scaled : {D : ℕ} {f : Fraction} {d : Difference} (k : ℕ) → Over D f d → Over (D * k) f (k ⊡ d)
over-scaled k x = record { parts = omega (arith, times k x.parts) }

-- over the same denominator, written in another way
pub over-as : {D E : ℕ} {f : Fraction} {d : Difference} → D ≡ E → Over D f d → Over E f d
over-as e x = rw e at x

-- the same figures have the same difference
pub same-up-to : {D : ℕ} {f g : Fraction} {d e : Difference} → Over D f d → Over D g e → Same f g → (UpTo 0 d e) × (UpTo 0 e d)
same-up-to {D} {f} {g} {d} {e} x y same =
    let s = times D (simp (positive-times, negative-times) at (equal-parts same)) in
    let q : d.plus + e.minus ≡ e.plus + d.minus =
    eq_of_mul-eq-mul_right (f.den * g.den) (mul-pos f.above g.above) _ _
    (omega (arith, s, times g.den x.parts, times f.den y.parts)) in
    (omega arith, omega arith)

-- and back
pub up-to-same : {D : ℕ} {f g : Fraction} {d e : Difference} → 0 < D → Over D f d → Over D g e → UpTo 0 d e → UpTo 0 e d → Same f g
up-to-same {D} {f} {g} {d} {e} h x y a b =
    let q : d.plus + e.minus ≡ e.plus + d.minus = omega (arith, a, b) in
    equal _ _ (simp (positive-times, negative-times) (eq_of_mul-eq-mul_right D h _ _
    (omega (arith, times (f.den * g.den) q, times g.den x.parts, times f.den y.parts))))
