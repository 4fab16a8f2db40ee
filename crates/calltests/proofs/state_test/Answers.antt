-- `state_test` meets its contract: tests 13 and 14 of a step or a report, in their order.
use mathlib.Core.Path.{sym, ap, ◌∙◌}
use Prim.Native.Nat.{min}
use native.Mathlib.Omega.{arith}
use Rattle.std.proofs.lemmas.Result.{err_from_is_err_and}
use Rattle.model.specs.State.{figures_at}
use Rattle.model.specs.Calls.{held_fault}
use Rattle.model.proofs.Refusals.{test-clear}
use Rattle.calltests.proofs.Found.{failed, lowest-or}
use Rattle.calltests.proofs.StateTests.{finds-river, finds-unfit, finds-segment, finds-rest}
use Rattle.calltests.proofs.RiverLaws.{counted, columns-long, figures-long, state-lowest}
use Rattle.calltests.proofs.state_test.Goals as goal

pub returns-in_err-test : goal.returns-in_err-test
returns-in_err-test c =
    let p = err_from_is_err_and c.from_residual.result c.from_residual.ensures.1 in
    let f = failed c.in_err-test.ensures in
    rw (p.1, p.2, f.1) (sym (finds-river _ _ _ _ _ _ _ (sym c.river_fault.ensures ∙ f.0)))

pub returns-in_err-test-2 : goal.returns-in_err-test-2
returns-in_err-test-2 c =
    let p = err_from_is_err_and c.from_residual-in_err-test-2.result c.from_residual-in_err-test-2.ensures.1 in
    let f = failed c.in_err-test-2.ensures in
    rw (p.1, p.2, f.1) (sym (finds-unfit _ _ _ _ _ _ _ (sym c.river_fault.ensures ∙ test-clear 13 _ (sym c.in_ok-test.ensures)) f.0))

pub segment_at_fault-requires : goal.segment_at_fault-requires
segment_at_fault-requires c =
    let r = sym c.river_fault.ensures ∙ test-clear 13 _ (sym c.in_ok-test.ensures) in
    ((counted _ _ r).1, columns-long _ _ _ r)

pub figures_at_fault-requires : goal.figures_at_fault-requires
figures_at_fault-requires c = figures-long _ _ _ _ _ (sym c.river_fault.ensures ∙ test-clear 13 _ (sym c.in_ok-test.ensures))

pub place_of-requires : goal.place_of-requires
place_of-requires c = omega (arith, c.if-i-count.true, counted _ _ (sym c.river_fault.ensures ∙ test-clear 13 _ (sym c.in_ok-test.ensures)))

pub returns-then-i-count : goal.returns-then-i-count
unfolding figures_at
returns-then-i-count c =
    rw (c.at.ensures, c.place_of.ensures)
    (sym
    (finds-segment _ _ _ _ _ _ _ (sym c.river_fault.ensures ∙ test-clear 13 _ (sym c.in_ok-test.ensures)) (test-clear 13 _ (sym c.in_ok-test-2.ensures)) _
    (state-lowest _ _ _ _ _ _ _ _ c.min-i.ensures
    (c.min.ensures ∙ ap (λ other. min other c.unwrap_or-2.result) c.unwrap_or.ensures)
    (c.unwrap_or-2.ensures ∙ rw c.segment_at_fault.ensures (lowest-or _ _))
    (c.unwrap_or-3.ensures ∙ rw c.figures_at_fault.ensures (lowest-or _ _)))
    c.if-i-count.true))

pub returns : goal.returns
unfolding figures_at held_fault
returns c =
    c.test-3.ensures
    ∙ finds-rest _ _ _ _ _ _ _ (sym c.river_fault.ensures ∙ test-clear 13 _ (sym c.in_ok-test.ensures)) (test-clear 13 _ (sym c.in_ok-test-2.ensures)) _
    (state-lowest _ _ _ _ _ _ _ _ c.min-i.ensures
    (c.min.ensures ∙ ap (λ other. min other c.unwrap_or-2.result) c.unwrap_or.ensures)
    (c.unwrap_or-2.ensures ∙ rw c.segment_at_fault.ensures (lowest-or _ _))
    (c.unwrap_or-3.ensures ∙ rw c.figures_at_fault.ensures (lowest-or _ _)))
    c.if-i-count.false (sym c.held_fault.ensures)
