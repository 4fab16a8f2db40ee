-- `upstream_at` meets its contract: no row behind row r has begun.
use mathlib.Core.Path.{◌≡◌}
use Prim.Native.Nat.{◌^◌, ◌<◌, ◌≤◌}
use Rattle.model.specs.Sheet.{row_count}
use Rattle.model.specs.Flow.{last_begun}
use Rattle.own_river.proofs.LastRow.{start_of}
use Rattle.own_river.proofs.rows.upstream_at.Given as goal

abbrev pub invariant-loop-r : goal.invariant-loop-r
invariant-loop-r l =
    (last_begun l.j (start_of l.sheet) l.r ≡ last_begun l.j (start_of l.sheet) (row_count l.sheet)) × (l.r ≤ row_count l.sheet) × (l.r < 2 ^ 32)
