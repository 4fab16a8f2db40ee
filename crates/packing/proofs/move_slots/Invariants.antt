use Rattle.terms.specs.Lent.{table_in}
use Rattle.packing.proofs.Packed.{Moving}
use Rattle.packing.proofs.move_slots.Given as goal

abbrev pub invariant-loop-i : goal.invariant-loop-i
invariant-loop-i l = Moving l.before l.i (table_in l.table)
