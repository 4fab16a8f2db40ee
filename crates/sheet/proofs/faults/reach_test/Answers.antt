use mathlib.Core.Path.{sym, ◌∙◌}
use native.Mathlib.Omega.{arith}
use Rattle.lists.proofs.Lowest.{searching-start, searching-miss}
use Rattle.model.specs.Refusals.{reach}
use Rattle.sheet.proofs.Tests.{each-found, each-clear}
use Rattle.sheet.proofs.faults.reach_test.Goals as goal

pub loop-i-init : goal.loop-i-init
loop-i-init c = searching-start

pub returns-then-reach_fault : goal.returns-then-reach_fault
returns-then-reach_fault c =
    rw c.at.ensures (each-found 6 reach c.loop-i.invariant (omega arith) (sym c.reach_fault.ensures ∙ c.if-reach_fault.true))

pub loop-i-preserved : goal.loop-i-preserved
loop-i-preserved c = searching-miss c.loop-i.invariant (omega arith) (sym c.reach_fault.ensures ∙ c.if-reach_fault.false)

pub returns : goal.returns
returns c = each-clear 6 reach c.loop-i.invariant (omega arith)
