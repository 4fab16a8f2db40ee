-- `ahead_test` meets its contract: tests 13, 14 and 20 in their order.
use mathlib.Core.Path.{sym, ◌∙◌}
use Rattle.std.proofs.lemmas.Result.{err_from_is_err_and}
use Rattle.model.specs.State.{figures_at}
use Rattle.model.specs.Calls.{held_fault}
use Rattle.model.proofs.Refusals.{test-clear}
use Rattle.calltests.proofs.Found.{failed, below-some, below-none}
use Rattle.forecast.specs.Says.{question_says, live_of, room_lent}
use Rattle.forecast.proofs.Tests.{held-alone, finds-lent, live_long, finds-segment, finds-held, finds-forecast}
use Rattle.forecast.proofs.ahead_test.Goals as goal

pub returns-in_err-test : goal.returns-in_err-test
returns-in_err-test c = λ upstream steps.
    let p = err_from_is_err_and c.from_residual.result c.from_residual.ensures.1 in
    let f = failed c.in_err-test.ensures in
    rw (p.1, p.2, f.1) (finds-lent _ _ _ _ (sym c.lent_fault.ensures ∙ f.0))

pub figures_at_fault-requires : goal.figures_at_fault-requires
figures_at_fault-requires c =
    live_long _ (live_of c.args.live) (room_lent c.args.copies.now c.args.highest1.now c.args.sides.now c.args.working.now 0 0)
    (question_says c.args.asked) (sym c.lent_fault.ensures ∙ test-clear 13 _ (sym c.in_ok-test.ensures))

pub returns-in-Some : goal.returns-in-Some
unfolding figures_at
returns-in-Some c = λ upstream steps.
    let found = below-some c.in-Some.ensures in
    rw c.at.ensures
    (finds-segment _ _ _ _
    (sym c.lent_fault.ensures ∙ test-clear 13 _ (sym c.in_ok-test.ensures)) _ found.0 found.1)

pub returns-in_err-test-2 : goal.returns-in_err-test-2
unfolding figures_at held_fault
returns-in_err-test-2 c = λ upstream steps.
    let p = err_from_is_err_and c.from_residual-in_err-test-2.result c.from_residual-in_err-test-2.ensures.1 in
    let f = failed c.in_err-test-2.ensures in
    rw (p.1, p.2, f.1)
    (finds-held _ _ _ _
    (sym c.lent_fault.ensures ∙ test-clear 13 _ (sym c.in_ok-test.ensures)) (below-none c.in_default.ensures)
    (sym (held-alone _ _) ∙ sym c.held_fault.ensures ∙ f.0))

pub returns : goal.returns
unfolding figures_at held_fault
returns c = λ upstream steps.
    rw (c.test-3.ensures, c.forecast_fault.ensures)
    (finds-forecast _ _ _ _
    (sym c.lent_fault.ensures ∙ test-clear 13 _ (sym c.in_ok-test.ensures)) (below-none c.in_default.ensures)
    (sym (held-alone _ _) ∙ sym c.held_fault.ensures ∙ test-clear 14 _ (sym c.in_ok-test-2.ensures)))
