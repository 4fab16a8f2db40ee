use Rattle.std.proofs.Common.{◌≡◌}
use Rattle.model.specs.Pool.{covered_below}
use Rattle.terms.specs.Lent.{table_in}
use Rattle.packing.proofs.covered_below.Given as goal

abbrev pub invariant-loop-s : goal.invariant-loop-s
invariant-loop-s l = l.to ≡ covered_below (table_in l.table) l.s
