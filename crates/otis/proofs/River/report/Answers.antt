-- `River::report` meets its contract.
use mathlib.Core.Path.{sym}
use Rattle.std.proofs.lemmas.Result.{err_from_is_err_and}
use Rattle.otis.proofs.Reporting.{report-reads, report-accepted, report-refused}
use Rattle.otis.proofs.River.report.Goals as goal

pub returns-in_err-state_test : goal.returns-in_err-state_test
returns-in_err-state_test c =
    let p = err_from_is_err_and c.from_residual.result c.from_residual.ensures.1 in
    rw (p.1, p.2) (report-refused _ _ _ _ _ (rw c.from.ensures at c.outside-unfit.ensures) _ _ (sym c.in_err-state_test.ensures))

pub overflow_sub-segment : goal.overflow_sub-segment
overflow_sub-segment c = (report-reads _ _ _ _ _ (rw c.from.ensures at c.outside-unfit.ensures) (sym c.in_ok-state_test.ensures)).from

pub figures_at-requires : goal.figures_at-requires
figures_at-requires c =
    let r = report-reads _ _ _ _ _ (rw c.from.ensures at c.outside-unfit.ensures) (sym c.in_ok-state_test.ensures) in
    (r.kd, r.channel, r.storage, r.sediment)

pub returns : goal.returns
returns c = report-accepted _ _ _ _ _ (rw c.from.ensures at c.outside-unfit.ensures) (sym c.in_ok-state_test.ensures) _ c.figures_at.ensures
