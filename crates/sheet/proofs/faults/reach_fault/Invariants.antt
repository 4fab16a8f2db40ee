-- `reach_fault` meets its contract: the first k fields are in range. Assumes nothing.
use Rattle.model.specs.Ranges.{reach_ranges}
use Rattle.model.specs.Sheet.{edition, reach_fields}
use Rattle.sheet.proofs.InRange.{Checking}
use Rattle.sheet.proofs.faults.reach_fault.Given as goal

abbrev pub invariant-loop-k : goal.invariant-loop-k
invariant-loop-k l = Checking (reach_ranges (edition l.sheet)) (reach_fields l.sheet l.i) l.k
