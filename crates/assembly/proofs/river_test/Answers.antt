use Rattle.std.proofs.lemmas.Result.{err_from_is_err_and}
use Rattle.model.specs.Load.{sheet_tests, course_tests}
use Rattle.course.specs.Segments.{site_fault}
use Rattle.assembly.proofs.TestsInTurn.{past, behind, stop, last}
use Rattle.assembly.proofs.river_test.Goals as goal

pub returns-in_err-flows_test : goal.returns-in_err-flows_test
unfolding course_tests site_fault
returns-in_err-flows_test c =
    let p = err_from_is_err_and c.from_residual-in_err-flows_test.result c.from_residual-in_err-flows_test.ensures.1 in
    rw (p.1, p.2) (past (sheet_tests _) _ c.in_ok-sheet_test.ensures (stop _ (rw c.segment_count-n.ensures at c.in_err-flows_test.ensures)))

pub returns-in_err-flows_test-2 : goal.returns-in_err-flows_test-2
unfolding course_tests site_fault
returns-in_err-flows_test-2 c =
    let p = err_from_is_err_and c.from_residual-in_err-flows_test-2.result c.from_residual-in_err-flows_test-2.ensures.1 in
    rw (p.1, p.2) (past (sheet_tests _) _ c.in_ok-sheet_test.ensures (behind _ (rw c.segment_count-n.ensures at c.in_ok-flows_test.ensures) (stop _ (rw c.segment_count-n.ensures at c.in_err-flows_test-2.ensures))))

pub returns : goal.returns
unfolding course_tests site_fault
returns c =
    past (sheet_tests _) _ c.in_ok-sheet_test.ensures (behind _ (rw c.segment_count-n.ensures at c.in_ok-flows_test.ensures) (behind _ (rw c.segment_count-n.ensures at c.in_ok-flows_test-2.ensures) (last (rw c.segment_count-n.ensures at c.flows_test-3.ensures))))
