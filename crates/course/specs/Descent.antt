-- A descent of the river from the top, segment by segment, with a flow at the top: what it has of the segment where it stands.
use Rattle.std.specs.Prelude.{Bool, cond, List, map, ◌≡◌, ℕ, suc, ◌+◌, ◌-◌, ◌*◌, ◌^◌, ◌<◌, ◌≤◌, eqb, ltb, ℤ, nat_abs, take}
use Rattle.model.specs.Sheet as Sheet
use Rattle.model.specs.Sheet.{BandedReach, reach_count, reach_on, banded_reaches, total_segments, segment_count, along_river}
use Rattle.model.specs.Flow.{Course, own_gain, gain, flow, flow_at}
use Rattle.model.specs.Bands.{hydraulics_at}
use Rattle.model.specs.HalfStep.{Site, ad, natural, hydraulics_of}
use Rattle.terms.specs.Says.{reach_says, hydraulics_say}
use Rattle.terms.specs.declared.Reach.{Reach}
use Rattle.bands.specs.Bands.{bands_say, Standing}
use Rattle.bands.specs.declared.place.Bands.{Bands}
use Rattle.halfstep.specs.Ranges.{Lateral, most_gain}
use Rattle.course.specs.Segments.{Read}
use Rattle.course.specs.declared.descent.Cursor.{Cursor}

-- the course of a sheet with this flow at the top
unfoldable pub course_from : List ℕ → (top : ℕ) → Course
course_from sheet top = record { dt = Sheet.dt sheet; dx = Sheet.dx sheet; top = top; river = along_river (banded_reaches sheet) }

-- the segments of the reaches before reach k
abbrev pub before : List BandedReach → (k : ℕ) → ℕ
before rs k = total_segments (map (λ (x : BandedReach). x.reach) (take k rs))

-- nothing that is worked out at a segment leaves its width
pub record Arrives (dx : ℕ) (own : Reach) (gain : ℤ) : Type 0 where
  pub lateral : Lateral (reach_says own) dx
  pub small : nat_abs gain ≤ most_gain

-- what is worked out there
pub record Arrived (sheet : List ℕ) (top dx number passed : ℕ) (own : Reach) (table : Bands) (sum : ℤ) (at : Cursor) : Type 0 where
  pub number_is : at.number ≡ number
  pub passed_is : at.passed ≡ passed
  pub gain_is : at.gain ≡ sum
  pub flow_is : at.flow ≡ flow top sum (own_gain (reach_says own) dx)
  pub hydraulics_is : hydraulics_say at.hydraulics ≡ hydraulics_at (bands_say sheet table) (reach_says own) (natural at.flow)

-- the cursor has what document 01 says of segment i, whose reach is `own`
pub record At (sheet : List ℕ) (top i : ℕ) (own : Reach) (at : Cursor) : Type 0 where
  pub known : at.number < reach_count sheet
  pub within : at.passed < (reach_on sheet at.number).segments
  pub place : i ≡ before (banded_reaches sheet) at.number + at.passed
  pub reach : reach_says own ≡ reach_on sheet at.number
  pub sum : at.gain ≡ gain (course_from sheet top) i
  pub small : nat_abs at.gain ≤ i * 10 ^ 12
  pub flow : at.flow ≡ flow_at (course_from sheet top) i
  pub hydraulics : hydraulics_say at.hydraulics ≡ hydraulics_of (course_from sheet top) i

-- the number of the reach of the segment below, and that reach
abbrev pub number_below : (own : Reach) → Cursor → ℕ
number_below own at = cond (ltb (at.passed + 1) own.segments) at.number (suc at.number)

abbrev pub reach_below : List ℕ → (own : Reach) → Cursor → Sheet.Reach
reach_below sheet own at = cond (ltb (at.passed + 1) own.segments) (reach_says own) (reach_on sheet (at.number + 1))

-- the segment below can be worked out: segment i of n, its reach, and the reach below with its bands
pub record Lower (sheet : List ℕ) (top dx n i : ℕ) (own lower : Reach) (table : Bands) (at : Cursor) : Type 0 where
  pub read : Read sheet n
  pub length : dx ≡ Sheet.dx sheet
  pub less : i < n
  pub here : At sheet top i own at
  pub reach : reach_says lower ≡ reach_below sheet own at
  pub bands : Standing sheet (number_below own at) table

-- "below the last, its own is used": the segment below segment i of n
abbrev pub below_of : (n i : ℕ) → ℕ
below_of n i = cond (eqb (i + 1) n) i (suc i)

-- what is known of it
pub record Below (sheet : List ℕ) (top n i : ℕ) (lower : Reach) (table : Bands) (below : Cursor) : Type 0 where
  pub next : suc i < n → At sheet top (suc i) lower below
  pub bands : suc i < n → Standing sheet below.number table
  pub hydraulics : hydraulics_say below.hydraulics ≡ hydraulics_of (course_from sheet top) (below_of n i)

-- the site that is made of a cursor
abbrev pub site_from : Cursor → Reach → (above below : ℕ) → Bool → (dt dx : ℕ) → Site
site_from at own above below last dt dx = record {
  own = reach_says own;
  hydraulics = hydraulics_say at.hydraulics;
  above = above;
  below = below;
  flow = at.flow;
  last = last;
  dt = dt;
  dx = dx;
}

-- the descent stands at segment i, with the reach, its bands and the AD above
pub record Stands (sheet : List ℕ) (top i : ℕ) (own : Reach) (table : Bands) (here : Cursor) (above : ℕ) : Type 0 where
  pub at : At sheet top i own here
  pub bands : Standing sheet here.number table
  pub above_is : above ≡ ad (hydraulics_of (course_from sheet top) (i - 1))
  pub above_most : above ≤ 10 ^ 12
