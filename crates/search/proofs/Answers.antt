-- An answer of the search, by its tests.
use Rattle.std.proofs.Common.{◌≡◌, ℕ, ◌-◌, ◌≤◌, List, [], ◌∷◌, length, take}
use Rattle.std.proofs.Common.{drop, false, ◌||◌, refl, sym, ◌∙◌, Option, Ok, Err, arith}
use mathlib.Core.Bool.{or-false}
use borrow.Author.Tests.{ltb-false}
use lib.Dec.{ltb}
use Rattle.lists.specs.Lists.{any_shorter}
use Rattle.lists.proofs.Shorter.{neither, all-long}
use Rattle.std.proofs.Math.Option as Document
use Rattle.model.specs.Ranges.{◌to◌, outside, most_segments}
use Rattle.model.specs.Refusals.{Place, Outcome, Finding, passes, fails, test, first}
use Rattle.model.specs.Calls.{river_fault}
use Rattle.model.specs.Highest.{block_count, blocks_fault}
use Rattle.model.specs.Search.{search_tests, Finds, Searches, SearchAnswer}
use Rattle.model.specs.Pool.{Slot, slot_of, end_of, number_fault, shared_fault, pool_tests, pool_search_tests, PoolSearchAnswer}
use Rattle.model.proofs.Ranges.{inside}
use Rattle.pool_laws.proofs.Tables.{fault-apart, number-clear}
use Rattle.model.proofs.Refusals.{fails-passes, outcome-passes, outcome-fails, test-clear}
use Rattle.terms.specs.declared.Refusal.{Refusal}
use Rattle.terms.specs.Says.{finding_says}
use Rattle.search.specs.Says.{found_says, search_says}

module _ (tests : List Finding) (n : ℕ) (channel highest : List ℕ) (limit : ℕ) where
  -- a refusal is that of the first test that fails
  pub searches-refused : (r : Refusal) → first tests ≡ finding_says {A = Option ℕ} (Err r) →
      Searches tests n channel highest limit (search_says (Err r))
  searches-refused r e = record {
    found = Document.none;
    finds = λ q. fails-passes (sym e ∙ q);
    is = sym (outcome-fails tests Document.none e);
  }

  -- what is found where all pass
  pub searches-found : (found : Option ℕ) → first tests ≡ passes → Finds n channel highest limit (found_says found) →
      Searches tests n channel highest limit (search_says (Ok found))
  searches-found found e h = record { found = found_says found; finds = λ q. h; is = sym (outcome-passes tests (found_says found) e) }

-- ---- its tests

-- one test alone
first-alone : (t : Finding) → first (t ∷ []) ≡ t
first-alone passes = refl
first-alone (fails number place) = refl

-- 13 of a river whose lists are its own
pub alone-tests : (n : ℕ) (channel highest : List ℕ) →
    first (search_tests n channel highest) ≡ test 13 (river_fault n (channel ∷ []) || blocks_fault n highest)
unfolding search_tests
alone-tests n channel highest = first-alone _

-- where it passes, the lists are there to be read
pub lists-long : (n : ℕ) (channel highest : List ℕ) → (river_fault n (channel ∷ []) || blocks_fault n highest) ≡ false →
    (n ≤ most_segments) × (n ≤ length channel) × (block_count n ≤ length highest)
unfolding river_fault blocks_fault
lists-long n channel highest e =
    let both = neither _ _ e in
    let river = neither (outside (1 to most_segments) n) (any_shorter n (channel ∷ [])) both.0 in
    ((inside (1 to most_segments) n river.0).1, (all-long n (channel ∷ []) river.1).0, ltb-false _ _ both.1)

-- ---- on a pool

module _ (table : List Slot) (channel : List ℕ) (number : ℕ) (highest : List ℕ) where
  pub slot-refused : {refusal : ℕ} {place : Place} → fails refusal place ≡ test 18 (number_fault table number) →
      first (pool_search_tests table channel number highest) ≡ fails refusal place
  unfolding pool_search_tests pool_tests
  slot-refused e = rw (sym e)

  module _ (clear : passes ≡ test 18 (number_fault table number)) where
    pub shared-refused : {refusal : ℕ} {place : Place} → fails refusal place ≡ test 13 (ltb (length channel) most_segments) →
        first (pool_search_tests table channel number highest) ≡ fails refusal place
    unfolding pool_search_tests pool_tests shared_fault any_shorter
    shared-refused e = rw (sym clear, or-false (ltb (length channel) most_segments), sym e)

    module _ (long : passes ≡ test 13 (ltb (length channel) most_segments)) (x : Slot) (is : x ≡ slot_of table number)
        (from end : ℕ) (stretch : (from ≡ x.first) × (end ≡ end_of x)) where
      -- where the river stands
      pub stands : end ≤ length channel
      stands =
          let n = number-clear table number (test-clear 18 _ (sym clear)) in
          let within : end_of x ≤ most_segments = rw is ((fault-apart table n.3).ends (number - 1) (omega (arith, n.0, n.1)) n.2) in
          omega (arith, stretch.1, ltb-false _ _ (test-clear 13 _ (sym long)))

      -- the tests of the stretch alone decide
      pub on-stretch : {limit : ℕ} {answer : Outcome (Document.Option ℕ)} →
          SearchAnswer x.segments (take (end - from) (drop from channel)) highest limit answer →
          PoolSearchAnswer table channel number highest limit answer
      unfolding pool_search_tests pool_tests shared_fault any_shorter
      on-stretch s =
          let many : end - from ≡ x.segments = omega (arith, stretch.0, stretch.1) in
          let s = rw (many, stretch.0, is) at s in
          let q = or-false (ltb (length channel) most_segments) in
          record { found = s.found; finds = rw (sym clear, q, sym long) s.finds; is = rw (sym clear, q, sym long) s.is }
