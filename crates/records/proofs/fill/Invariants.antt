-- `fill` meets its contract: the list stands as it does once i entries are filled. Assumes nothing.
use Rattle.std.proofs.Common.{◌≡◌}
use Rattle.records.proofs.Filled.{table}
use Rattle.records.proofs.fill.Given as goal

abbrev pub invariant-loop-i : goal.invariant-loop-i
invariant-loop-i l = l.reaches ≡ table l.sheet l.initial.reaches l.i
