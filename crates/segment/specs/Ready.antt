-- What the functions of one segment ask.
use Rattle.std.specs.Prelude.{ℕ, ◌≤◌}
use Rattle.rounding.specs.Nearest.{S}
use Rattle.model.specs.Ranges.{highest}
use Rattle.model.specs.Equations.{Figures, Pair}
use Rattle.model.specs.Sweep.{Row, Passed, under}
use Rattle.sweep_laws.specs.Accepted.{Accepted, AtMost}
use Rattle.sweep_laws.specs.Stable.{Fit, Stable}

-- the highest number of 32 bits: the right sides fit whatever the figures are
abbrev pub word : ℕ
word = 4294967295

-- a segment that a step accepts, with its figures
pub record FiguresReady (x : Pair) (f : Figures) : Type 0 where
  pub accepted : Accepted x
  pub most : AtMost highest f

-- and with the channel figures above and below
pub record RowReady (x : Pair) (f : Figures) (above below : ℕ) : Type 0 where
  pub figures : FiguresReady x f
  pub most_above : above ≤ highest
  pub most_below : below ≤ highest

-- a fit row under what the segment above passed down
pub record PassReady (r : Row) (above : Passed) : Type 0 where
  pub fit : Fit r
  pub stable : Stable (under above)

-- the same for a segment whose row is not worked out yet
pub record SegmentReady (x : Pair) (f : Figures) (above below : ℕ) (d : Passed) : Type 0 where
  pub ready : RowReady x f above below
  pub stable : Stable (under d)

-- what the downward pass left of a segment, and the uncut C' below it
pub record RaiseReady (d : Passed) (below : ℕ) : Type 0 where
  pub stable : Stable (under d)
  pub most_below : below ≤ S
