-- Bounds of a fraction, and its distance from a whole number, as inequalities of natural numbers over a common denominator.
use Prim.Native.Nat.{ℕ, ◌+◌, ◌*◌, ◌<◌}
use native.Mathlib.Nat.{mul-le-mul_left, mul-le-mul_right, le_of_mul-le-mul_right}
use native.Mathlib.Omega.{arith}
use lib.IntN.{pos, ◌+ℤ◌}
use lib.Signed.{◌≤ℤ◌}
use Rattle.fractions.specs.Fractions.{Fraction, Within, whole, ◌·◌}
use Rattle.fractions.proofs.Whole.{at_most, at-most-parts, sum-parts}
use Rattle.fractions.proofs.Differences.{Difference, natural, UpTo}
use Rattle.fractions.proofs.Over.{Over, times, over-own, over-multiple, over-whole}

module _ {D : ℕ} {f : Fraction} {d : Difference} (h : 0 < D) (o : Over D f d) where
  -- f ≤ n
  pub most-up-to : (n : ℕ) → f.num ≤ℤ pos (n * f.den) → UpTo 0 d (natural (n * D))
  most-up-to n l = record {
    most = le_of_mul-le-mul_right {k = f.den} (omega (arith, mul-le-mul_right D (at-most-parts _ _ l), o.parts)) f.above;
  }

  pub up-to-most : (n : ℕ) → UpTo 0 d (natural (n * D)) → f.num ≤ℤ pos (n * f.den)
  up-to-most n l =
      at_most _ _ (le_of_mul-le-mul_right {k = D} (omega (arith, mul-le-mul_right f.den l.most, o.parts)) h)

  -- x ≤ f + k
  pub least-up-to : (k x : ℕ) → pos (x * f.den) ≤ℤ (f.num +ℤ pos (k * f.den)) → UpTo (k * D) (natural (x * D)) d
  least-up-to k x l = record {
    most = le_of_mul-le-mul_right {k = f.den}
        (omega (arith, mul-le-mul_right D (at-most-parts _ _ l), times D (sum-parts f.num (pos (k * f.den))), o.parts))
        f.above;
  }

  pub up-to-least : (k x : ℕ) → UpTo (k * D) (natural (x * D)) d → pos (x * f.den) ≤ℤ (f.num +ℤ pos (k * f.den))
  up-to-least k x l =
      at_most _ _
      (le_of_mul-le-mul_right {k = D}
      (omega (arith, mul-le-mul_right f.den l.most, times D (sum-parts f.num (pos (k * f.den))), o.parts)) h)

  -- 0 ≤ f
  pub zero-up-to : pos 0 ≤ℤ f.num → UpTo 0 (natural 0) d
  zero-up-to l = record {
    most = le_of_mul-le-mul_right {k = f.den} (omega (arith, mul-le-mul_right D (at-most-parts _ _ l), o.parts)) f.above;
  }

  pub up_to_zero : UpTo 0 (natural 0) d → pos 0 ≤ℤ f.num
  up_to_zero l = at_most _ _ (le_of_mul-le-mul_right {k = D} (omega (arith, mul-le-mul_right f.den l.most, o.parts)) h)

  -- the distance of f from a whole number: neither is more than k above the other
  pub within-up-to : {k x : ℕ} → Within k x f → (UpTo (k * D) (natural (x * D)) d) × (UpTo (k * D) d (natural (x * D)))
  within-up-to {k} {x} w = (least-up-to k x w.most, omega (arith, most-up-to (x + k) w.least))

  pub up-to-within : (k x : ℕ) → UpTo (k * D) (natural (x * D)) d → UpTo (k * D) d (natural (x * D)) → Within k x f
  up-to-within k x a b = record { most = up-to-least k x a; least = up-to-most (x + k) (omega (arith, b)) }

-- a whole number is within 0 of itself
pub within-whole : (x : ℕ) → Within 0 x (whole x)
within-whole x = up-to-within (omega arith) (over-whole 1 x) 0 x (omega arith) (omega arith)

-- m times both: "Kd × W by at most 6 × n × Kd from Kd times the exact W"
pub within-times : {k x : ℕ} {f : Fraction} (m : ℕ) → Within k x f → Within (k * m) (m * x) (m · f)
within-times {k} {x} {f} m w =
    let b = within-up-to f.above (over-own f) w in
    up-to-within f.above (over-multiple m (over-own f)) (k * m) (m * x)
    (omega (arith, mul-le-mul_left m b.0.most))
    (omega (arith, mul-le-mul_left m b.1.most))
