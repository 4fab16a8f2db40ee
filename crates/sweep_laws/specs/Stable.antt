-- What keeps the sweep within one whole: of a segment's row, and of what stands above it.
use Rattle.std.specs.Prelude.{ℕ, ◌+◌, ◌*◌, ◌≤◌}
use Rattle.rounding.specs.Nearest.{S}
use Rattle.model.specs.Sweep.{Row, Above, top, under}

-- a row on which the sweep stays within one whole
pub record Fit (r : Row) : Type 0 where
  pub small : r.g ≤ S
  pub wide : S + r.e + r.g ≤ r.F
  pub most : r.F ≤ 2 * S
  pub room : r.R + S + (r.e + r.g) * S ≤ r.F * S

-- p above a segment, which counts as 0 above segment 1
abbrev pub p_above : Above → ℕ
p_above (top u') = 0
p_above (under d) = d.p

-- y above a segment, which counts as U' above segment 1
abbrev pub y_above : Above → ℕ
y_above (top u') = u'
y_above (under d) = d.y

-- what stands above a segment is within one whole
pub record Stable (above : Above) : Type 0 where
  pub half : 2 * p_above above ≤ S
  pub whole : y_above above + p_above above ≤ S
