use Rattle.terms.specs.Lent.{table_in}
use Rattle.pool_laws.proofs.Packing.{Packing}
use Rattle.packing.proofs.pack.Given as goal

abbrev pub invariant-loop-s : goal.invariant-loop-s
invariant-loop-s l = Packing (table_in l.table) l.initial.list l.s l.to l.list
