-- `reach_test` meets its contract: no reach below i is at fault. Assumes nothing.
use Rattle.lists.proofs.Lowest.{Searching}
use Rattle.model.specs.Ranges.{any_outside, reach_ranges}
use Rattle.model.specs.Sheet.{edition, reach_count, reach_fields}
use Rattle.sheet.proofs.faults.reach_test.Given as goal

abbrev pub invariant-loop-i : goal.invariant-loop-i
invariant-loop-i l = Searching (λ i. any_outside (reach_ranges (edition l.sheet)) (reach_fields l.sheet i)) (reach_count l.sheet) l.i
