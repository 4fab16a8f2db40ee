-- A test of one number after another, as `any` over a range makes it.
use Rattle.std.proofs.Common.{◌≡◌, ℕ, zero, suc, ◌+◌, Bool, true, false, ◌||◌, refl, sym, ap, ◌∙◌, arith}
use mathlib.Core.Bool.{or-false}
use Rattle.std.specs.List.{list_any, range_with_len}
use Rattle.lists.specs.Lists.{any_below}

or-or : (a b c : Bool) → (a || b || c) ≡ (a || (b || c))
or-or true b c = refl
or-or false b c = refl

-- the first of them, and the others
below-front : (n : ℕ) (f : ℕ → Bool) → any_below (suc n) f ≡ (f 0 || any_below n (λ i. f (suc i)))
unfolding any_below
below-front zero f = sym (or-false (f 0))
below-front (suc n) f = ap (λ t. t || f (suc n)) (below-front n f) ∙ or-or (f 0) (any_below n (λ i. f (suc i))) (f (suc n))

range-any : (test f : ℕ → Bool) (a n : ℕ) → ((i : ℕ) → test (a + i) ≡ f i) → list_any test (range_with_len a n) ≡ any_below n f
unfolding any_below
range-any test f a zero same = refl
range-any test f a (suc n) same =
    let here : test a ≡ f 0 = ap test (omega arith) ∙ same 0 in
    rw (here, range-any test (λ i. f (suc i)) (a + 1) n (λ i. ap test (omega arith) ∙ same (suc i))) (sym (below-front n f))

pub below-any : (f : ℕ → Bool) (n : ℕ) → list_any f (range_with_len 0 n) ≡ any_below n f
below-any f n = range-any f f 0 n (λ i. ap f (omega arith))
