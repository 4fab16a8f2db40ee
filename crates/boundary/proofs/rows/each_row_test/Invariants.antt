-- `rows::each_row_test` meets its contract. The loop's invariant: no row below i is at fault, and `before` is the start of the row before.
use lib.ListN.{length}
use Rattle.model.specs.Load.{row_fault}
use Rattle.sheet.proofs.Entries.{Passing}
use Rattle.boundary.proofs.rows.each_row_test.Given as goal

abbrev pub invariant-loop-i : goal.invariant-loop-i
invariant-loop-i l = Passing (row_fault l.steps l.starts l.concentrations) (length l.starts) l.starts l.i l.before
