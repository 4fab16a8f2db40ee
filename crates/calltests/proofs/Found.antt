-- The lowest at fault as `find` hands it out: an index below the count, or none. And what a test of a row says.
use mathlib.Core.Path.{◌≡◌, refl}
use mathlib.Core.Bool.{Bool, true, false, cond}
use Prim.Native.Nat.{ℕ, zero, suc, ◌<◌, ◌≤◌}
use native.Mathlib.Numerals.{add-one}
use native.Mathlib.Omega.{arith}
use borrow.Author.Tests.{lt-ltb, le-ltb, ltb-true, ltb-false}
use mathlib.Core.List.{[], ◌∷◌}
use lib.Dec.{ltb}
use Rattle.std.specs.Prelude.{MatchOption, Option, Some, None, unwrap_or}
use Rattle.lists.specs.Lists.{lowest}
use Rattle.lists.proofs.Lowest.{Searching, searching-start, searching-miss, searching-hit, searching-end, lowest-is}
use Rattle.model.specs.Refusals.{Place, Finding, nothing, passes, fails, test, first}
use Rattle.model.proofs.Refusals.{fails-passes}
use Rattle.calltests.specs.Tests.{below}

-- a search that has found none below i
searched : (fault : ℕ → Bool) (n i : ℕ) → i ≤ n → ((k : ℕ) → k < i → fault k ≡ false) → Searching fault n i
searched fault n zero h none = searching-start
searched fault n (suc i) h none =
    rw (← add-one i) (searching-miss (searched fault n i (omega arith) (λ k l. none k (omega arith))) (omega arith) (none i (omega arith)))

-- what `find` over the indices says
pub below-first : (fault : ℕ → Bool) (n : ℕ) (r : Option ℕ) →
    MatchOption r ((k : ℕ) → 0 ≤ k → k < n → fault k ≡ false) (λ i. (0 ≤ i) × (i < n) × (fault i ≡ true) × ((k : ℕ) → 0 ≤ k → k < i → fault k ≡ false)) →
    r ≡ below n (lowest n fault)
below-first fault n None none =
    let e = searching-end (searched fault n n (omega arith) (λ k h. none k (omega arith) h)) (omega arith) in rw (← e, le-ltb n n (omega arith))
below-first fault n (Some i) first =
    let e = searching-hit (searched fault n i (omega (arith, first.1)) (λ k h. first.3 k (omega arith) h)) first.1 first.2 in rw (← e, lt-ltb i n first.1)

-- as a number: n where none is at fault
pub below-or : (n i : ℕ) → i ≤ n → unwrap_or (below n i) n ≡ i
below-or n i h = go (ltb i n) refl
  where
    go : (t : Bool) → ltb i n ≡ t → unwrap_or (below n i) n ≡ i
    go true e = rw e
    go false e = let q = ltb-false i n e in rw e (omega arith)

pub lowest-or : (n : ℕ) (fault : ℕ → Bool) → unwrap_or (below n (lowest n fault)) n ≡ lowest n fault
lowest-or n fault = below-or n (lowest n fault) (omega (arith, (lowest-is fault n).within))

-- an index that was found is the lowest
pub below-some : {n low i : ℕ} → Some i ≡ below n low → (i < n) × (i ≡ low)
below-some {n} {low} {i} e = go (ltb low n) refl e
  where
    go : (t : Bool) → ltb low n ≡ t → Some i ≡ cond t (Some low) None → (i < n) × (i ≡ low)
    go true q e = let is : i ≡ low = cc in let h = ltb-true low n q in (omega arith, is)
    go false q e = grind arith

-- where none was found there is none
pub below-none : {n low : ℕ} → None ≡ below n low → n ≤ low
below-none {n} {low} e = go (ltb low n) refl e
  where
    go : (t : Bool) → ltb low n ≡ t → None ≡ cond t (Some low) None → n ≤ low
    go true q e = grind arith
    go false q e = ltb-false low n q

-- ---- a test of a row

pub failed : {number k : ℕ} {place : Place} {found : Bool} → fails k place ≡ test number found → (found ≡ true) × (fails k place ≡ fails number nothing)
failed {found = true} e = (refl, e)
failed {found = false} e = fails-passes e

pub first_one : (finding : Finding) → finding ≡ first (finding ∷ [])
first_one passes = refl
first_one (fails number place) = refl
