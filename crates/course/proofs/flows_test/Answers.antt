use mathlib.Core.Path.{sym}
use native.Mathlib.Omega.{arith}
use Rattle.std.proofs.lemmas.Result.{err_from_is_err_and}
use Rattle.course.proofs.Flows.{flow-passes, flow-fails, flows-pass}
use Rattle.course.proofs.flows_test.Goals as goal

pub returns-in_err-course_test : goal.returns-in_err-course_test
returns-in_err-course_test c =
    let p = err_from_is_err_and c.from_residual.result c.from_residual.ensures.1 in
    rw (p.1, p.2) (flow-fails c.loop-row.invariant (omega (arith, c.loop-row-test.true, c.flow_row_count-row-end.ensures)) (sym c.in_err-course_test.ensures))

pub loop-row-preserved : goal.loop-row-preserved
loop-row-preserved c =
    flow-passes c.loop-row.invariant (omega (arith, c.loop-row-test.true, c.flow_row_count-row-end.ensures)) (sym c.in_ok-course_test.ensures)

pub returns-in_ok-course_test : goal.returns-in_ok-course_test
returns-in_ok-course_test c =
    let last = flow-passes c.loop-row.invariant (omega (arith, c.loop-row-test.true, c.flow_row_count-row-end.ensures)) (sym c.in_ok-course_test.ensures) in
    flows-pass last (omega (arith, c.flow_row_count-row-end.ensures))
