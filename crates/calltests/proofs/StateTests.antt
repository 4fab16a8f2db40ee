-- What tests 13 and 14 of a step or a report find.
use mathlib.Core.Path.{◌≡◌, refl}
use mathlib.Core.Bool.{Bool, true, false, cond, ◌||◌}
use mathlib.Core.List.{◌++◌}
use Prim.Native.Nat.{ℕ, suc, ◌+◌, ◌<◌, ◌≤◌, min}
use native.Mathlib.Numerals.{add-one}
use native.Mathlib.Omega.{arith}
use borrow.Author.Tests.{lt-ltb, le-ltb, ltb-false}
use lib.Dec.{ltb}
use Rattle.lists.specs.Lists.{lowest}
use Rattle.lists.proofs.Lowest.{none-at-fault}
use Rattle.lists.proofs.Shorter.{neither}
use Rattle.model.specs.Ranges.{outside, concentration, most_steps}
use Rattle.model.specs.State.{Columns, column_lists, State, state_lists}
use Rattle.model.specs.Refusals.{nothing, segment, passes, fails, test, first}
use Rattle.model.specs.Calls.{river_fault, state_fault, held_fault}
use Rattle.model.proofs.Refusals.{fails-passes, all_pass, test-clear}
use Rattle.calltests.specs.Tests.{state_tests}
use Rattle.calltests.proofs.Found.{first_one}

module _ (n : ℕ) (x : Columns) (state : State) (unfit : Bool) (other u' M : ℕ) where
  pub finds-river : river_fault n (column_lists x ++ state_lists state) ≡ true → first (state_tests n x state unfit other u' M) ≡ fails 13 nothing
  unfolding state_tests
  finds-river r = rw r

  module _ (r : river_fault n (column_lists x ++ state_lists state) ≡ false) where
    pub finds-unfit : unfit ≡ true → first (state_tests n x state unfit other u' M) ≡ fails 13 nothing
    unfolding state_tests
    finds-unfit f = rw (r, f)

    module _ (f : unfit ≡ false) (i : ℕ) (low : i ≡ min other (lowest n (state_fault n x state))) where
      pub finds-segment : i < n → first (state_tests n x state unfit other u' M) ≡ fails 14 (segment (i + 1))
      unfolding state_tests
      finds-segment h = rw (r, f, ← low, lt-ltb i n h, add-one i)

      -- no segment is at fault: what no segment has decides
      pub finds-rest : n ≤ i → {t : Bool} → (held_fault state || outside concentration u' || ltb most_steps M) ≡ t →
          test 14 t ≡ first (state_tests n x state unfit other u' M)
      unfolding state_tests
      finds-rest h e = rw (r, f, ← low, le-ltb i n h, e) (first_one _)

none_found : (n i : ℕ) (t : Bool) → ltb i n ≡ t → cond t (fails 14 (segment (suc i))) passes ≡ passes → n ≤ i
none_found n i true e q = fails-passes q
none_found n i false e q = ltb-false i n e

-- what is known where they find nothing
pub record Sound (n : ℕ) (x : Columns) (state : State) (unfit : Bool) (other u' M : ℕ) : Type 0 where
  pub river : river_fault n (column_lists x ++ state_lists state) ≡ false
  pub fit : unfit ≡ false
  pub others : n ≤ other
  pub segments : (i : ℕ) → i < n → state_fault n x state i ≡ false
  pub held : (held_fault state || outside concentration u' || ltb most_steps M) ≡ false

pub sound : (n : ℕ) (x : Columns) (state : State) (unfit : Bool) (other u' M : ℕ) → first (state_tests n x state unfit other u' M) ≡ passes →
    Sound n x state unfit other u' M
unfolding state_tests
sound n x state unfit other u' M e =
    let all = all_pass (state_tests n x state unfit other u' M) e in
    let both = neither (river_fault n (column_lists x ++ state_lists state)) unfit (test-clear 13 _ all.0) in
    let above : n ≤ min other (lowest n (state_fault n x state)) = none_found n _ _ refl all.1.0 in
    record {
      river = both.0;
      fit = both.1;
      others = omega arith;
      segments = none-at-fault (state_fault n x state) n (omega arith);
      held = test-clear 14 _ all.1.1.0;
    }
