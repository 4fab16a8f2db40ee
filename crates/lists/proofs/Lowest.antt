-- Laws of `lowest`: a loop that searches the lowest at fault, and what is known of the entries below it.
use mathlib.Core.Path.{◌≡◌, refl, sym, ap, ◌∙◌}
use mathlib.Core.Bool.{Bool, true, false, cond}
use mathlib.Core.Logic.{⊎_elim}
use Prim.Native.Nat.{ℕ, zero, suc, ◌+◌, ◌-◌, ◌<◌, ◌≤◌}
use native.Mathlib.Nat.{eq-or-lt_of_le}
use native.Mathlib.Numerals.{add-one}
use native.Mathlib.Omega.{arith}
use Rattle.lists.specs.Lists.{lowest_from, lowest}

-- ---- a loop that stands at i of n

module _ (fault : ℕ → Bool) (n i : ℕ) (h : i < n) where
  one_more : lowest_from i (n - i) fault ≡ lowest_from i (suc (n - (i + 1))) fault
  one_more = ap (λ k. lowest_from i k fault) (omega arith)

  from-hit : fault i ≡ true → lowest_from i (n - i) fault ≡ i
  unfolding lowest_from
  from-hit e = one_more ∙ rw e

  from-miss : fault i ≡ false → lowest_from i (n - i) fault ≡ lowest_from (i + 1) (n - (i + 1)) fault
  unfolding lowest_from
  from-miss e = one_more ∙ rw (e, add-one i)

-- a loop that looks for the lowest of n at fault, and has found none below i
pub record Searching (fault : ℕ → Bool) (n i : ℕ) : Type 0 where
  pub within : i ≤ n
  pub rest : lowest_from i (n - i) fault ≡ lowest n fault

pub searching-start : {fault : ℕ → Bool} {n : ℕ} → Searching fault n 0
unfolding lowest
searching-start {fault} {n} = record { within = omega arith; rest = ap (λ k. lowest_from 0 k fault) (omega arith) }

pub searching-miss : {fault : ℕ → Bool} {n i : ℕ} → Searching fault n i → i < n → fault i ≡ false → Searching fault n (i + 1)
searching-miss {fault} {n} {i} r h e = record { within = omega arith; rest = sym (from-miss fault n i h e) ∙ r.rest }

pub searching-hit : {fault : ℕ → Bool} {n i : ℕ} → Searching fault n i → i < n → fault i ≡ true → i ≡ lowest n fault
searching-hit {fault} {n} {i} r h e = sym (from-hit fault n i h e) ∙ r.rest

pub searching-end : {fault : ℕ → Bool} {n i : ℕ} → Searching fault n i → n ≤ i → i ≡ lowest n fault
unfolding lowest_from
searching-end {fault} {n} {i} r h = let e : n - i ≡ 0 = omega arith in sym (rw e) ∙ r.rest

-- ---- what is known of the lowest

-- low is the lowest at fault of i, .., i + n − 1, or i + n
pub record Lowest (fault : ℕ → Bool) (i n low : ℕ) : Type 0 where
  pub within : low ≤ i + n
  pub at_fault : low < i + n → fault low ≡ true
  pub none : (k : ℕ) → i ≤ k → k < low → fault k ≡ false

-- one more in front
in-front : (fault : ℕ → Bool) (i n low : ℕ) (t : Bool) → fault i ≡ t → Lowest fault (suc i) n low → Lowest fault i (suc n) (cond t i low)
in-front fault i n low true e r =
    record { within = omega arith; at_fault = λ h. e; none = λ k l h. absurd (omega arith) }
in-front fault i n low false e r =
    record {
      within = omega arith;
      at_fault = λ h. r.at_fault (omega arith);
      none = λ k l h. ⊎_elim (λ q. ap fault (sym q) ∙ e) (λ q. r.none k q h) (eq-or-lt_of_le l);
    }

lowest-from : (fault : ℕ → Bool) (i n : ℕ) → Lowest fault i n (lowest_from i n fault)
unfolding lowest_from
lowest-from fault i zero =
    record { within = omega arith; at_fault = λ h. absurd (omega arith); none = λ k l h. absurd (omega arith) }
lowest-from fault i (suc n) = in-front fault i n _ (fault i) refl (lowest-from fault (suc i) n)

pub lowest-is : (fault : ℕ → Bool) (n : ℕ) → Lowest fault 0 n (lowest n fault)
unfolding lowest
lowest-is fault n = lowest-from fault 0 n

-- the lowest is not below n: none is at fault
pub none-at-fault : (fault : ℕ → Bool) (n : ℕ) → n ≤ lowest n fault → (i : ℕ) → i < n → fault i ≡ false
none-at-fault fault n h i l = (lowest-is fault n).none i (omega arith) (omega arith)

-- none is at fault: the lowest is n
pub lowest-end : (fault : ℕ → Bool) (n : ℕ) → ((i : ℕ) → i < n → fault i ≡ false) → lowest n fault ≡ n
lowest-end fault n all = sym (searching-end (searched fault n all n (omega arith)) (omega arith))
  where
    searched : (fault : ℕ → Bool) (n : ℕ) → ((i : ℕ) → i < n → fault i ≡ false) → (i : ℕ) → i ≤ n → Searching fault n i
    searched fault n all zero h = searching-start
    searched fault n all (suc i) h = rw (← add-one i) (searching-miss (searched fault n all i (omega arith)) (omega arith) (all i (omega arith)))
