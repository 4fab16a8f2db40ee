-- A loading's tests in their order, and what an accepted loading and a refused one leave.
use mathlib.Core.List.{List, [], ◌∷◌, ◌++◌}
use mathlib.Core.Logic.{⊎_elim}
use mathlib.Core.Path.{◌≡◌, refl, sym, ap, ◌∙◌}
use Prim.Native.Nat.{ℕ, suc, ◌<◌, ◌≤◌}
use native.Mathlib.Nat.{eq-or-lt_of_le}
use native.Mathlib.Omega.{arith}
use borrow.Author.Tests.{ltb-false}
use Rattle.lists.proofs.Shorter.{neither, all-long}
use Rattle.model.specs.Sheet.{flow_row_count, segment_count}
use Rattle.model.specs.Flow.{course_of}
use Rattle.model.specs.HalfStep.{site_at}
use Rattle.model.specs.State.{Columns, column_lists}
use Rattle.model.specs.Refusals.{segment, Finding, passes, test_each, first}
use Rattle.model.specs.Load.{test_flows, sheet_tests, course_tests, river_tests, list_tests}
use Rattle.model.proofs.Refusals.{first-both, all_pass, flows-clear, each-clear, test-clear}
use Rattle.terms.proofs.Lengths.{columns-first}
use Rattle.course.specs.Segments.{site_fault, ClearFlows, Read}
use Rattle.course.proofs.Descending.{few}
use Rattle.course.proofs.River.{rows_fit, gauges-fit, flow-rows-fit}
use Rattle.assembly.specs.Fit.{Fit}
use Rattle.assembly.proofs.TestsInTurn.{in_turn}

-- test k of tests 10 to 12, with every flow in turn
abbrev pub flows_test : ℕ → ℕ → List ℕ → Finding
flows_test k n sheet = test_flows (flow_row_count sheet) (λ row. test_each k segment n (λ i. site_fault k (site_at (course_of sheet row) i)))

-- no test of lower number
pub clear-start : {n : ℕ} {sheet : List ℕ} → ClearFlows 10 n sheet
clear-start = record { each = λ row q. record { each = λ k l m. absurd (omega arith) } }

-- one test more
pub clear_next : {number n : ℕ} {sheet : List ℕ} → ClearFlows number n sheet → flows_test number n sheet ≡ passes → ClearFlows (suc number) n sheet
clear_next {number} {n} {sheet} c e = record {
  each = λ row q. record {
    each = λ k l m i h.
        ⊎_elim
        (λ p. ap (λ t. site_fault t (site_at (course_of sheet row) i)) p ∙ each-clear number segment n (λ i. site_fault number (site_at (course_of sheet row) i)) (clear row q) i h)
        (λ p. (c.each row q).each k l p i h)
        (eq-or-lt_of_le (below k m));
  };
}
  where
    clear : (row : ℕ) → row ≤ flow_row_count sheet → test_each number segment n (λ i. site_fault number (site_at (course_of sheet row) i)) ≡ passes
    clear = flows-clear (flow_row_count sheet) (λ row. test_each number segment n (λ i. site_fault number (site_at (course_of sheet row) i))) e

    below : (k : ℕ) → k < suc number → k ≤ number
    below k h = omega arith

-- the tests that follow those of the sheet's own fields, over n segments
abbrev pub later : List ℕ → (n : ℕ) → List Finding
later sheet n = flows_test 10 n sheet ∷ flows_test 11 n sheet ∷ flows_test 12 n sheet ∷ []

module _ (sheet : List ℕ) where
  -- tests 1 to 12: those of the sheet's own fields, and the later ones
  river-tests : (n : ℕ) → n ≡ segment_count sheet → river_tests sheet ≡ sheet_tests sheet ++ later sheet n
  unfolding sheet_tests course_tests site_fault
  river-tests n q = ap (λ k. sheet_tests sheet ++ later sheet k) (sym q)

  -- what all of them leave
  module _ {n : ℕ} (q : n ≡ segment_count sheet) where
    pub behind-12 : first (river_tests sheet) ≡ passes → Read sheet n × ClearFlows 13 n sheet
    behind-12 e =
        let both = first-both (sheet_tests sheet) (later sheet (segment_count sheet)) (rw (river-tests (segment_count sheet) refl) at e) in
        let all = all_pass (later sheet (segment_count sheet)) both.1 in
        (record { passed = both.0; count = q }, rw q (clear_next (clear_next (clear_next clear-start all.0) all.1.0) all.1.1.0))

module _ (sheet : List ℕ) (row records : ℕ) (x : Columns) where
  -- what the tests leave where all pass
  pub fit : first (river_tests sheet) ≡ passes → first (list_tests sheet row records x) ≡ passes → Fit sheet row x
  unfolding list_tests
  fit river lists =
      let n = segment_count sheet in
      let behind = behind-12 sheet {n = n} refl river in
      let clear = neither _ _ (neither _ _ (test-clear 13 _ (all_pass (list_tests sheet row records x) lists).0)).0 in
      record {
        read = behind.0;
        clear = behind.1.each row (ltb-false _ _ clear.0);
        long = columns-first n x [] (all-long n (column_lists x) clear.1);
      }

-- a loading's tests in turn, and what they leave where all pass
pub ruleset decided = (in_turn, fit)

-- tests 10 to 12 in turn
pub ruleset each_flow = (in_turn, clear-start, clear_next)

-- what tells that places on the sheet fit 32 bits
pub ruleset places = (few, rows_fit, gauges-fit, flow-rows-fit)
