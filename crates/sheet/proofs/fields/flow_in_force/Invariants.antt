-- `flow_in_force` meets its contract: no row behind row r has begun. Assumes nothing.
use mathlib.Core.Path.{◌≡◌}
use Prim.Native.Nat.{◌^◌, ◌<◌}
use Rattle.model.specs.Sheet.{flow_row_start}
use Rattle.model.specs.Flow.{last_begun, flow_in_force}
use Rattle.sheet.proofs.fields.flow_in_force.Given as goal

abbrev pub invariant-loop-r : goal.invariant-loop-r
invariant-loop-r l = (last_begun l.j (flow_row_start l.sheet) l.r ≡ flow_in_force l.sheet l.j) × (l.r < 2 ^ 32)
