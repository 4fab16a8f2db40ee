-- `segment_count` meets its contract: the total so far and the segments from reach i on are all segments. The total, of at most
-- 2^32 reaches, fits. Assumes nothing.
use mathlib.Core.Path.{◌≡◌}
use Prim.Native.Nat.{◌+◌, ◌-◌, ◌*◌, ◌≤◌}
use Rattle.lists.specs.Lists.{tab}
use Rattle.model.specs.Sheet.{reach_count, reach_on, total_segments, segment_count}
use Rattle.sheet.proofs.fields.segment_count.Given as goal

abbrev pub invariant-loop-i : goal.invariant-loop-i
invariant-loop-i l =
    (l.i ≤ reach_count l.sheet) × (l.total + total_segments (tab l.i (reach_count l.sheet - l.i) (reach_on l.sheet)) ≡ segment_count l.sheet) × (l.total ≤ 4294967295 * l.i)
