-- Whole numbers as differences of natural ones: z is its part above zero less its part below zero. Equations and orders of whole
-- numbers are read off natural ones.
use mathlib.Core.Path.{◌≡◌, refl, ap, ◌∙◌}
use mathlib.Core.Bool.{Bool, true, false, not, cond}
use Prim.Native.Nat.{ℕ, zero, suc, ◌+◌, ◌*◌, ◌-◌, ◌<◌, ◌≤◌}
use native.Mathlib.Omega.{arith}
use lib.IntN.{ℤ, pos, negsuc, neg_ℤ, sub_ℕ, ◌+ℤ◌, ◌*ℤ◌}
use lib.Dec.{T, ltb, ltb→lt, nltb→le, le→leb, leb→le}
use lib.Signed.{◌≤ℤ◌, le_z_yes}

-- the part above zero
abbrev pub positive : ℤ → ℕ
positive (pos n) = n
positive (negsuc n) = 0

-- the part below zero
abbrev pub negative : ℤ → ℕ
negative (pos n) = 0
negative (negsuc n) = suc n

-- equal, from the parts
pub equal : (a b : ℤ) → positive a + negative b ≡ positive b + negative a → a ≡ b
equal (pos a) (pos b) h = ap pos (omega arith)
equal (pos a) (negsuc b) h = absurd (omega arith)
equal (negsuc a) (pos b) h = absurd (omega arith)
equal (negsuc a) (negsuc b) h = ap negsuc (omega arith)

-- and back
pub equal-parts : {a b : ℤ} → a ≡ b → positive a + negative b ≡ positive b + negative a
equal-parts {a} {b} e = omega (arith, ap positive e, ap negative e)

-- at most, from the parts
pub at_most : (a b : ℤ) → positive a + negative b ≤ positive b + negative a → a ≤ℤ b
at_most (pos a) (pos b) h = le_z_yes (le→leb a b (omega arith))
at_most (pos a) (negsuc b) h = absurd (omega arith)
at_most (negsuc a) (pos b) h = le_z_yes tt
at_most (negsuc a) (negsuc b) h = le_z_yes (le→leb b a (omega arith))

-- and back
pub at-most-parts : (a b : ℤ) → a ≤ℤ b → positive a + negative b ≤ positive b + negative a
at-most-parts (pos a) (pos b) h = omega (arith, leb→le a b h.le)
at-most-parts (pos a) (negsuc b) h = absurd h.le
at-most-parts (negsuc a) (pos b) h = omega arith
at-most-parts (negsuc a) (negsuc b) h = omega (arith, leb→le b a h.le)

-- the parts of a difference of natural numbers
sub_parts : (a b : ℕ) → positive (sub_ℕ a b) + b ≡ a + negative (sub_ℕ a b)
sub_parts a b = go (ltb a b) (λ t. ltb→lt a b t) (λ t. nltb→le a b t)
  where
    go : (c : Bool) → (T c → a < b) → (T (not c) → b ≤ a) →
        positive (cond c (negsuc (b - suc a)) (pos (a - b))) + b ≡ a + negative (cond c (negsuc (b - suc a)) (pos (a - b)))
    go true h k = let l : a < b = h tt in omega arith
    go false h k = let l : b ≤ a = k tt in omega arith

-- the parts of a sum
pub sum-parts : (a b : ℤ) → positive (a +ℤ b) + (negative a + negative b) ≡ (positive a + positive b) + negative (a +ℤ b)
sum-parts (pos a) (pos b) = omega arith
sum-parts (pos a) (negsuc b) = omega (arith, sub_parts a (suc b))
sum-parts (negsuc a) (pos b) = omega (arith, sub_parts b (suc a))
sum-parts (negsuc a) (negsuc b) = omega arith

-- the parts change places where the sign is changed
pub positive-neg : (a : ℤ) → positive (neg_ℤ a) ≡ negative a
positive-neg (pos zero) = refl
positive-neg (pos (suc n)) = refl
positive-neg (negsuc n) = refl

pub negative-neg : (a : ℤ) → negative (neg_ℤ a) ≡ positive a
negative-neg (pos zero) = refl
negative-neg (pos (suc n)) = refl
negative-neg (negsuc n) = refl

-- the parts of a product
positive-mul : (a b : ℤ) → positive (a *ℤ b) ≡ positive a * positive b + negative a * negative b
positive-mul (pos a) (pos b) = omega arith
positive-mul (pos a) (negsuc b) = positive-neg (pos (a * suc b)) ∙ omega arith
positive-mul (negsuc a) (pos b) = positive-neg (pos (suc a * b)) ∙ omega arith
positive-mul (negsuc a) (negsuc b) = omega arith

negative-mul : (a b : ℤ) → negative (a *ℤ b) ≡ positive a * negative b + negative a * positive b
negative-mul (pos a) (pos b) = omega arith
negative-mul (pos a) (negsuc b) = negative-neg (pos (a * suc b)) ∙ omega arith
negative-mul (negsuc a) (pos b) = negative-neg (pos (suc a * b)) ∙ omega arith
negative-mul (negsuc a) (negsuc b) = omega arith

-- the parts of a product by a natural number, on either side
pub positive-times : (z : ℤ) (n : ℕ) → positive (z *ℤ pos n) ≡ positive z * n
positive-times z n = positive-mul z (pos n) ∙ omega arith

pub negative-times : (z : ℤ) (n : ℕ) → negative (z *ℤ pos n) ≡ negative z * n
negative-times z n = negative-mul z (pos n) ∙ omega arith

pub positive-times-left : (n : ℕ) (z : ℤ) → positive (pos n *ℤ z) ≡ n * positive z
positive-times-left n z = positive-mul (pos n) z ∙ omega arith

pub negative-times-left : (n : ℕ) (z : ℤ) → negative (pos n *ℤ z) ≡ n * negative z
negative-times-left n z = negative-mul (pos n) z ∙ omega arith
