-- How large signed sums, differences, products and quotients can be, and how a signed number is held.
use mathlib.Core.Path.{◌≡◌, ◌∙◌}
use Prim.Native.Nat.{ℕ, ◌+◌, ◌*◌, ◌^◌, ◌<◌, ◌≤◌}
use native.Mathlib.Nat.{mul-le-mul, div-le_self}
use native.Mathlib.Omega.{arith}
use borrow.Author.Rules.{sfits_of}
use lib.IntN.{ℤ, pos, negsuc, nat_abs, ◌+ℤ◌, ◌-ℤ◌, ◌*ℤ◌}
use lib.Signed.{mag}
use mir.Syntax.{w64}
use mir.Val.{SFits, to_z, of_z}
use mir.ValLaws.{to_z-of_z}
use Rattle.std.proofs.lemmas.Int.{ints, fits_signed_from_abs, unsigned_abs-mul}
use Rattle.rounding.specs.Floor.{floor_div}
use Rattle.model.specs.Sheet.{Reach}
use Rattle.model.specs.Flow.{own_gain}

-- a signed number is held as its bits, and read back
pub back : (z : ℤ) → mag z < 2 ^ 63 → to_z w64 (of_z w64 z) ≡ z
back z h = to_z-of_z w64 z (sfits_of h)

-- and so is the result of a call, which is what the call ensures
pub result : {z t : ℤ} → mag z < 2 ^ 63 → z ≡ t → to_z w64 (of_z w64 z) ≡ t
result h e = back _ h ∙ e

-- a number below 2^63 either way fits, and is read back
pub fits-abs : (z : ℤ) → nat_abs z < 2 ^ 63 → SFits w64 z
fits-abs = fits_signed_from_abs w64

pub back-abs : (z : ℤ) → nat_abs z < 2 ^ 63 → to_z w64 (of_z w64 z) ≡ z
back-abs z h = to_z-of_z w64 z (fits-abs z h)

-- a sum is no larger than both together
pub abs-sum : (x y : ℤ) → nat_abs (x +ℤ y) ≤ nat_abs x + nat_abs y
abs-sum (pos a) (pos b) = omega (arith, ints)
abs-sum (pos a) (negsuc b) = omega (arith, ints)
abs-sum (negsuc a) (pos b) = omega (arith, ints)
abs-sum (negsuc a) (negsuc b) = omega (arith, ints)

-- a difference of two naturals is no larger than a bound of both
pub abs_diff : (a b k : ℕ) → a ≤ k → b ≤ k → nat_abs (pos a -ℤ pos b) ≤ k
abs_diff a b k p q = omega (arith, ints)

-- twice a number, and that with another
pub abs-twice : (x : ℤ) → nat_abs (pos 2 *ℤ x) ≡ 2 * nat_abs x
abs-twice x = unsigned_abs-mul (pos 2) x

pub abs-twice-and : (x y : ℤ) → nat_abs (pos 2 *ℤ x +ℤ y) ≤ 2 * nat_abs x + nat_abs y
abs-twice-and x y = omega (arith, abs-sum (pos 2 *ℤ x) y, abs-twice x)

-- a quotient rounded down is no larger than its dividend
pub abs-floor : (x : ℤ) (d : ℕ) → nat_abs (floor_div x d) ≤ nat_abs x
unfolding floor_div
abs-floor (pos n) d = div-le_self n d
abs-floor (negsuc n) d = omega (arith, div-le_self n d)

-- (qin − qout) × dx of a segment with its fields in their ranges
pub abs-gain : (own : Reach) (dx : ℕ) → own.qin ≤ 100000000 → own.qout ≤ 100000000 → dx ≤ 10000 → nat_abs (own_gain own dx) ≤ 10 ^ 12
unfolding own_gain
abs-gain own dx p q r =
    omega (arith, unsigned_abs-mul (pos own.qin -ℤ pos own.qout) (pos dx), mul-le-mul (abs_diff own.qin own.qout 100000000 p q) r)
