use Rattle.std.proofs.Common.{◌≡◌, cond, ◌*◌, ◌≤◌}
use Rattle.lists.specs.Lists.{sum_below}
use Rattle.model.specs.Pool.{is_open, slot_at}
use Rattle.terms.specs.Lent.{table_in}
use Rattle.pool_table.proofs.open_segments.Given as goal

abbrev pub invariant-loop-i : goal.invariant-loop-i
invariant-loop-i l = record {
  is : l.sum ≡ sum_below l.i (λ j. cond (is_open (slot_at (table_in l.table) j)) (slot_at (table_in l.table) j).segments 0);
  small : l.sum ≤ l.i * 4294967295;
}
