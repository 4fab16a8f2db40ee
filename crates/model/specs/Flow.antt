-- Document 01, "Flow and half-step numbers", and document 02, 1 and 2: the flows of a sheet, and the flow of each segment.
use Rattle.std.specs.Prelude.{cond, List, ℕ, zero, suc, leb, ℤ, pos, ◌+ℤ◌, ◌-ℤ◌, ◌*ℤ◌, get_or}
use Rattle.rounding.specs.Floor.{floor_div}
use Rattle.model.specs.Sheet.{Reach, reach_of, band_of, Bands, BandedReach, dt, dx, top_flow, flow_row_count, flow_row_start, flow_row_top, banded_reaches, along_river}

-- flow r of a sheet, by "a flow row's number (0 for the top flow ..)": the flow at the top
unfoldable pub top_of : List ℕ → ℕ → ℕ
top_of sheet zero = top_flow sheet
top_of sheet (suc r) = flow_row_top sheet r

-- "the last row starting at or before j": of n rows, by its number, which counts from 1; 0 where none does
unfoldable pub last_begun : (j : ℕ) → (start : ℕ → ℕ) → (n : ℕ) → ℕ
last_begun j start zero = 0
last_begun j start (suc r) = cond (leb (start r) j) (suc r) (last_begun j start r)

-- the flow in force at step j, by its number: "A row's flow begins to hold at the end of its step"
unfoldable pub flow_in_force : List ℕ → (j : ℕ) → ℕ
flow_in_force sheet j = last_begun j (flow_row_start sheet) (flow_row_count sheet)

-- what the half-step numbers of a river are worked out from: dt, dx, the flow at the top and the reach of each segment
pub record Course : Type 0 where
  pub dt : ℕ
  pub dx : ℕ
  pub top : ℕ
  pub river : List BandedReach

-- that of a sheet for flow r
unfoldable pub course_of : List ℕ → (r : ℕ) → Course
course_of sheet r = record { dt = dt sheet; dx = dx sheet; top = top_of sheet r; river = along_river (banded_reaches sheet) }

-- past the last segment, where nothing is read, a reach of zeros without bands
abbrev pub no_reach : BandedReach
no_reach = record { reach = reach_of (λ k. 0); bands = record { count = 0; band = λ j. band_of (λ k. 0) } }

-- the reach of segment i
unfoldable pub reach_at : Course → ℕ → Reach
reach_at course i = (get_or course.river i no_reach).reach

-- and the bands of that reach
unfoldable pub bands_at : Course → ℕ → Bands
bands_at course i = (get_or course.river i no_reach).bands

-- "(qin − qout) × dx": the own gain of a segment of this reach, of which 100,000 make a mL/s
unfoldable pub own_gain : Reach → (dx : ℕ) → ℤ
own_gain reach dx = (pos reach.qin -ℤ pos reach.qout) *ℤ pos dx

-- "the gain of all segments before it"
unfoldable pub gain : Course → ℕ → ℤ
gain course zero = pos 0
gain course (suc i) = gain course i +ℤ own_gain (reach_at course i) course.dx

-- "Segment i's flow Q is the top flow plus the net gain", which at the segment's middle is "the gain of all segments before it plus
-- half its own, rounded down once": twice that sum / 200,000, so that no half is rounded by itself.
unfoldable pub flow : (top : ℕ) → (before own : ℤ) → ℤ
flow top before own = pos top +ℤ floor_div (pos 2 *ℤ before +ℤ own) 200000

-- that of segment i, which rests on no A, D or AS
unfoldable pub flow_at : Course → ℕ → ℤ
flow_at course i = flow course.top (gain course i) (own_gain (reach_at course i) course.dx)
