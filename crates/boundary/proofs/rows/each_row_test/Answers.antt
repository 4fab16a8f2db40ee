use mathlib.Core.Path.{refl, sym, ◌∙◌}
use native.Mathlib.Omega.{arith}
use Rattle.model.specs.Refusals.{row}
use Rattle.sheet.proofs.Entries.{passing-start, passing-miss}
use Rattle.sheet.proofs.Tests.{each-found, each-clear}
use Rattle.boundary.proofs.rows.each_row_test.Goals as goal

pub loop-i-init : goal.loop-i-init
loop-i-init c = passing-start

pub returns-then-row_fault : goal.returns-then-row_fault
returns-then-row_fault c =
    let p = c.loop-i.invariant in
    rw c.at.ensures
    (each-found _ row p.searching (omega arith)
    (sym (c.row_fault.ensures _ _ _ (record { before_is = p.last; start_is = refl; figure_is = refl })) ∙ c.if-row_fault.true))

pub loop-i-preserved : goal.loop-i-preserved
loop-i-preserved c =
    let p = c.loop-i.invariant in
    passing-miss p (omega arith) (sym (c.row_fault.ensures _ _ _ (record { before_is = p.last; start_is = refl; figure_is = refl })) ∙ c.if-row_fault.false) refl

pub returns : goal.returns
returns c = each-clear _ row c.loop-i.invariant.searching (omega arith)
