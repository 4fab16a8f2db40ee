-- `sheet_end` meets its contract: where the walk passes, k sections lie behind `at`. Assumes nothing.
use Prim.Native.Nat.{◌+◌, ◌^◌, ◌≤◌}
use lib.ListN.{length}
use Rattle.model.specs.Sheet.{sections, reach_count_at}
use Rattle.sheet.specs.Walks.{Walked}
use Rattle.sheet.proofs.Walking.{Ending, Walking}
use Rattle.sheet.proofs.walks.sheet_end.Given as goal

abbrev pub invariant-loop-k : goal.invariant-loop-k
invariant-loop-k l = Ending l.sheet reach_count_at (sections l.sheet) l.k l.at × (Walked l.sheet → Walking l.sheet reach_count_at (sections l.sheet) l.k l.at) × (l.at ≤ 24 + length l.sheet + 2 ^ 40)
