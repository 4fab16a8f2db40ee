use Rattle.std.proofs.Common.{arith}
use Rattle.packing.proofs.Packed.{moving-turn, moving-end}
use Rattle.packing.proofs.move_slots.Goals as goal

pub loop-i-preserved : goal.loop-i-preserved
loop-i-preserved c = rw c.put.ensures (moving-turn c.args.table.now _ _ _ c.loop-i.invariant c.loop-i-test.true c.moved_slot.ensures)

pub returns : goal.returns
returns c = moving-end _ _ _ c.loop-i.invariant (omega arith)
