-- `walk` meets its contract: k sections are right, and lie on the sheet. Assumes nothing.
use Prim.Native.Nat.{◌+◌, ◌≤◌}
use lib.ListN.{length}
use Rattle.model.specs.Sheet.{sections, reach_count_at}
use Rattle.sheet.proofs.Walking.{Walking}
use Rattle.sheet.proofs.walks.walk.Given as goal

abbrev pub invariant-loop-k : goal.invariant-loop-k
invariant-loop-k l = Walking l.sheet reach_count_at (sections l.sheet) l.k l.at × (l.at ≤ 24 + length l.sheet)
