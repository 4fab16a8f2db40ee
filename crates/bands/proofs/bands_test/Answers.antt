use mathlib.Core.Path.{sym, ◌∙◌}
use native.Mathlib.Numerals.{add-one}
use native.Mathlib.Omega.{arith}
use Rattle.lists.proofs.Lowest.{searching-start, searching-miss}
use Rattle.model.specs.Refusals.{reach}
use Rattle.bands.proofs.Banded.{standing-fault}
use Rattle.sheet.proofs.Tests.{each-found, each-clear}
use Rattle.bands.proofs.bands_test.Goals as goal

pub loop-i-init : goal.loop-i-init
loop-i-init c = (searching-start, c.first-bands.ensures)

pub returns-then-fault : goal.returns-then-fault
returns-then-fault c =
    rw c.at.ensures
    (each-found 19 reach c.loop-i.invariant.0 (omega arith) (sym (c.fault.ensures ∙ standing-fault c.loop-i.invariant.1) ∙ c.if-fault.true))

pub loop-i-preserved : goal.loop-i-preserved
loop-i-preserved c =
    (searching-miss c.loop-i.invariant.0 (omega arith) (sym (c.fault.ensures ∙ standing-fault c.loop-i.invariant.1) ∙ c.if-fault.false), rw (add-one c.loop-i.i) c.below-bands.ensures)

pub returns : goal.returns
returns c = each-clear 19 reach c.loop-i.invariant.0 (omega arith)
