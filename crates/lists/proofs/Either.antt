-- The lowest at fault of two tests together.
use mathlib.Core.Path.{◌≡◌, refl, ◌∙◌}
use mathlib.Core.Bool.{Bool, true, false, cond, ◌||◌}
use Prim.Native.Nat.{ℕ, zero, suc, ◌≤◌, min}
use native.Mathlib.Omega.{arith}
use Rattle.lists.specs.Lists.{lowest_from, lowest}

-- one more in front
in-front : (s t : Bool) (i a b : ℕ) → i ≤ a → i ≤ b → min (cond s i a) (cond t i b) ≡ cond (s || t) i (min a b)
in-front true true i a b h l = omega arith
in-front true false i a b h l = omega arith
in-front false true i a b h l = omega arith
in-front false false i a b h l = refl

not-before : (t : Bool) (i a : ℕ) → i ≤ a → i ≤ cond t i a
not-before true i a h = omega arith
not-before false i a h = h

from-within : (i n : ℕ) (fault : ℕ → Bool) → i ≤ lowest_from i n fault
unfolding lowest_from
from-within i zero fault = omega arith
from-within i (suc n) fault = not-before (fault i) i _ (omega (arith, from-within (suc i) n fault))

either-from : (f g : ℕ → Bool) (i n : ℕ) → min (lowest_from i n f) (lowest_from i n g) ≡ lowest_from i n (λ k. f k || g k)
unfolding lowest_from
either-from f g i zero = omega arith
either-from f g i (suc n) =
    in-front (f i) (g i) i _ _ (omega (arith, from-within (suc i) n f)) (omega (arith, from-within (suc i) n g))
    ∙ rw (either-from f g (suc i) n)

pub lowest-either : (f g : ℕ → Bool) (n : ℕ) → min (lowest n f) (lowest n g) ≡ lowest n (λ i. f i || g i)
unfolding lowest
lowest-either f g n = either-from f g 0 n
