-- Document 01, "The equations": "A fraction is a whole numerator, which may be negative, over a whole denominator above 0;
-- two are the same figure when their cross products are equal, and equations and distances are read with the denominators
-- multiplied out."
use Rattle.std.specs.Prelude.{◌≡◌, ℕ, ◌+◌, ◌*◌, ◌<◌, ℤ, pos, ◌+ℤ◌, ◌-ℤ◌, ◌*ℤ◌, ◌≤ℤ◌}
use Rattle.std.proofs.Common.{mul-pos, arith}

pub record Fraction : Type 0 where
  pub num : ℤ
  pub den : ℕ
  pub above : 0 < den

-- "two are the same figure when their cross products are equal"
abbrev pub Same : Fraction → Fraction → Type 0
Same f g = f.num *ℤ pos g.den ≡ g.num *ℤ pos f.den

-- a whole number as a fraction
abbrev pub whole : ℕ → Fraction
whole n = record { num = pos n; den = 1; above = omega arith }

infixl 6 ◌⊕◌ ◌⊖◌
infixl 7 ◌·◌
-- f + g
abbrev pub ◌⊕◌ : Fraction → Fraction → Fraction
f ⊕ g = record { num = f.num *ℤ pos g.den +ℤ g.num *ℤ pos f.den; den = f.den * g.den; above = mul-pos f.above g.above }

-- f − g
abbrev pub ◌⊖◌ : Fraction → Fraction → Fraction
f ⊖ g = record { num = f.num *ℤ pos g.den -ℤ g.num *ℤ pos f.den; den = f.den * g.den; above = mul-pos f.above g.above }

-- k times f
abbrev pub ◌·◌ : ℕ → Fraction → Fraction
k · f = record { num = pos k *ℤ f.num; den = f.den; above = f.above }

-- the whole number x and f "differ either way by at most" k, the denominator multiplied out
pub record Within (k x : ℕ) (f : Fraction) : Type 0 where
  pub most : pos (x * f.den) ≤ℤ (f.num +ℤ pos (k * f.den))
  pub least : f.num ≤ℤ pos ((x + k) * f.den)
