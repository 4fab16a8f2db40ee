use native.Mathlib.Omega.{arith}
use Rattle.model.specs.Refusals.{row}
use Rattle.sheet.specs.Entries.{fault_of}
use Rattle.sheet.proofs.Entries.{passing-start, passing-miss, breaks, keeps}
use Rattle.sheet.proofs.Tests.{each-found, each-clear}
use Rattle.sheet.proofs.faults.entries_test.Goals as goal

pub loop-j-init : goal.loop-j-init
loop-j-init c = passing-start

pub returns-in_default : goal.returns-in_default
returns-in_default c =
    let p = c.loop-j.invariant in
    rw (c.at.ensures, c.fault.ensures)
    (each-found _ row p.searching (omega arith) (breaks (fault_of c.args.entries c.args.sheet.now c.loop-j.j) _ (c.in_default.ensures p.last)))

pub loop-j-preserved : goal.loop-j-preserved
loop-j-preserved c =
    let p = c.loop-j.invariant in
    let k = keeps (fault_of c.args.entries c.args.sheet.now c.loop-j.j) (c.in-Some.ensures p.last) in passing-miss p (omega arith) k.0 k.1

pub returns : goal.returns
returns c = each-clear _ row c.loop-j.invariant.searching (omega arith)
