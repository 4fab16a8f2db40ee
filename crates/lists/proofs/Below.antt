-- Laws of `any_below`, `sum_below` and `highest_below`.
use mathlib.Core.Path.{◌≡◌, refl, sym, ap, ◌∙◌}
use mathlib.Core.Bool.{Bool, true, false, false≢true, cond, ◌||◌, or-true, or-false}
use mathlib.Core.Logic.{⊎_elim}
use Prim.Native.Nat.{ℕ, zero, suc, ◌+◌, ◌<◌, ◌≤◌, max}
use native.Mathlib.Nat.{eq-or-lt_of_le}
use native.Mathlib.Numerals.{add-one}
use native.Mathlib.Omega.{arith}
use Rattle.lists.specs.Lists.{any_below, sum_below, highest_below}
use Rattle.lists.proofs.Shorter.{neither}

-- ---- one of 0, .., n − 1

-- one below n is below n + 1
any-more : (f : ℕ → Bool) (n : ℕ) → any_below n f ≡ true → any_below (suc n) f ≡ true
unfolding any_below
any-more f n e = rw e

-- so is n itself
any_last : (f : ℕ → Bool) (n : ℕ) → f n ≡ true → any_below (suc n) f ≡ true
unfolding any_below
any_last f n e = rw e (or-true (any_below n f))

-- one that holds below n
pub any-hit : (f : ℕ → Bool) (n i : ℕ) → i < n → f i ≡ true → any_below n f ≡ true
any-hit f zero i h e = absurd (omega arith)
any-hit f (suc n) i h e =
    ⊎_elim (λ q. any_last f n (ap f (sym q) ∙ e)) (λ q. any-more f n (any-hit f n i q e)) (let l : i ≤ n = omega arith in eq-or-lt_of_le l)

-- where none holds below n, each fails
pub any_none : (f : ℕ → Bool) (n : ℕ) → any_below n f ≡ false → (i : ℕ) → i < n → f i ≡ false
unfolding any_below
any_none f zero e i h = absurd (omega arith)
any_none f (suc n) e i h =
    let both = neither (any_below n f) (f n) e in
    ⊎_elim (λ q. ap f q ∙ both.1) (λ q. any_none f n both.0 i q) (let l : i ≤ n = omega arith in eq-or-lt_of_le l)

-- where one holds below n, there is one
pub any_some : (f : ℕ → Bool) (n : ℕ) → any_below n f ≡ true → (i : ℕ) × (i < n) × (f i ≡ true)
unfolding any_below
any_some f zero e = absurd (false≢true e)
any_some f (suc n) e = go (f n) refl e (any_some f n)
  where
    go : (t : Bool) → f n ≡ t → (any_below n f || t) ≡ true → (any_below n f ≡ true → (i : ℕ) × (i < n) × (f i ≡ true)) →
        (i : ℕ) × (i < suc n) × (f i ≡ true)
    go true q h rest = (n, omega arith, q)
    go false q h rest = let x = rest (sym (or-false (any_below n f)) ∙ h) in (x.0, omega (arith, x.1), x.2)

-- where each fails, none holds below n
pub none_any : (f : ℕ → Bool) (n : ℕ) → ((i : ℕ) → i < n → f i ≡ false) → any_below n f ≡ false
unfolding any_below
none_any f zero all = refl
none_any f (suc n) all = rw (none_any f n (λ i h. all i (omega arith)), all n (omega arith))

-- ---- the sum of 0, .., n − 1

-- a loop at its start
pub sum-start : (f : ℕ → ℕ) → 0 ≡ sum_below 0 f
unfolding sum_below
sum-start f = refl

-- a loop that has added those below i, and adds that of i
pub sum-turn : (f : ℕ → ℕ) (i s x : ℕ) → s ≡ sum_below i f → x ≡ f i → s + x ≡ sum_below (i + 1) f
unfolding sum_below
sum-turn f i s x p e = rw (add-one i, p, e)

-- the sum of sums
pub sum-add : (f g : ℕ → ℕ) (n : ℕ) → sum_below n (λ i. f i + g i) ≡ sum_below n f + sum_below n g
unfolding sum_below
sum-add f g zero = refl
sum-add f g (suc n) = let e = sum-add f g n in omega arith

-- no larger parts, no larger sum
pub sum-most : (f g : ℕ → ℕ) (n : ℕ) → ((i : ℕ) → i < n → f i ≤ g i) → sum_below n f ≤ sum_below n g
unfolding sum_below
sum-most f g zero h = omega arith
sum-most f g (suc n) h = omega (arith, sum-most f g n (λ i l. h i (omega arith)), h n (omega arith))

-- where one holds, it counts in the sum of those that hold
pub any_sum : (f : ℕ → Bool) (n : ℕ) → cond (any_below n f) 1 0 ≤ sum_below n (λ i. cond (f i) 1 0)
unfolding any_below sum_below
any_sum f zero = omega arith
any_sum f (suc n) = either (any_below n f) (f n) (sum_below n (λ i. cond (f i) 1 0)) (any_sum f n)
  where
    either : (a b : Bool) (s : ℕ) → cond a 1 0 ≤ s → cond (a || b) 1 0 ≤ s + cond b 1 0
    either true b s h = omega arith
    either false true s h = omega arith
    either false false s h = omega arith

-- ---- the highest of 0, .., n − 1

-- a loop at its start
pub highest-start : (f : ℕ → ℕ) → 0 ≡ highest_below 0 f
unfolding highest_below
highest-start f = refl

-- one turn
pub highest-turn : (f : ℕ → ℕ) (n h h' : ℕ) → h ≡ highest_below n f → h' ≡ max h (f n) → h' ≡ highest_below (n + 1) f
unfolding highest_below
highest-turn f n h h' e q = q ∙ rw (add-one n, e)

-- none is above it
pub highest-most : (f : ℕ → ℕ) (n i : ℕ) → i < n → f i ≤ highest_below n f
unfolding highest_below
highest-most f zero i h = absurd (omega arith)
highest-most f (suc n) i h =
    ⊎_elim
    (λ q. let e : f i ≡ f n = ap f q in omega arith)
    (λ q. omega (arith, highest-most f n i q))
    (let l : i ≤ n = omega arith in eq-or-lt_of_le l)

-- it rests on these alone
pub highest-cong : (f g : ℕ → ℕ) (n : ℕ) → ((i : ℕ) → i < n → f i ≡ g i) → highest_below n f ≡ highest_below n g
unfolding highest_below
highest-cong f g zero same = refl
highest-cong f g (suc n) same = rw (highest-cong f g n (λ i h. same i (omega arith)), same n (omega arith))
