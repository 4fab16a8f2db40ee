-- What the next step of the sheet's own river asks, which it keeps: what tests 13 and 14 of a step look at.
use Rattle.std.specs.Prelude.{◌≡◌, List, [], map, ℕ, ◌<◌, ◌≤◌, length}
use Rattle.model.specs.Ranges.{highest}
use Rattle.model.specs.Sheet.{segment_count}
use Rattle.model.specs.Flow.{flow_in_force}
use Rattle.model.specs.State.{loaded_segments, State, figures_at, write_figures}
use Rattle.model.specs.Refusals.{passes, first}
use Rattle.model.specs.Load.{river_tests}
use Rattle.model.specs.Calls.{Working, start_figures, step_left}
use Rattle.model.specs.Runs.{LoadedFor, SetFor}
use Rattle.model.specs.OwnRiver.{own_step, own_working}
use Rattle.terms.specs.Lent.{LongFigures}
use Rattle.sweep_laws.specs.Accepted.{AtMost}
use Rattle.own_river.specs.Sides.{width, sides_of, filled, kept, held_at, sides_for, sides_after, SidesAre}

-- tests 1 to 12, 16 and 19 of the sheet pass, and its river has n segments
pub record OfSheet (sheet : List ℕ) (n : ℕ) : Type 0 where
  pub passed : first (river_tests sheet) ≡ passes
  pub count : n ≡ segment_count sheet

-- both sides hold the set of the flow in force at this step, for n segments
pub record InForce (sheet : List ℕ) (n steps : ℕ) (sides : List ℕ) : Type 0 where
  pub wide : n ≤ width sides
  pub old : SetFor sheet (flow_in_force sheet steps) n (sides_of sides).old
  pub new : LoadedFor sheet (flow_in_force sheet steps) n (sides_of sides).new

-- the state of n segments: lists of an entry for each, and figures and U in range
pub record InRange (n : ℕ) (state : State) : Type 0 where
  pub long : LongFigures n state.channel state.storage state.sediment
  pub most : (i : ℕ) → i < n → AtMost highest (figures_at state i)
  pub upstream : state.upstream ≤ highest

-- all of it, with working lists of an entry for each segment
pub record Ready (sheet : List ℕ) (n : ℕ) (sides : List ℕ) (state : State) (working : Working) : Type 0 where
  pub of_sheet : OfSheet sheet n
  pub in_force : InForce sheet n state.steps sides
  pub in_range : InRange n state
  pub p_long : n ≤ length working.p
  pub y_long : n ≤ length working.y

-- what is left where both sides are filled off the sheet for this step
pub record Held (sheet : List ℕ) (n steps : ℕ) (sides sides' : List ℕ) : Type 0 where
  pub sides_are : SidesAre (held_at sheet steps (sides_of sides)) sides sides'
  pub in_force : InForce sheet n steps sides'

-- what the start leaves: the state of a start; the sides of step 0
pub record Begun (sheet : List ℕ) (n : ℕ) (sides : List ℕ) (state : State) (u : ℕ) (sides' : List ℕ) (state' : State) : Type 0 where
  pub state_is : state' ≡ write_figures (map start_figures (loaded_segments sheet 0)) u 0 state
  pub sides_are : SidesAre (kept (filled sheet (flow_in_force sheet 0) (sides_of sides))) sides sides'
  pub in_force : InForce sheet n 0 sides'
  pub in_range : InRange n state'

-- what the next step leaves: the state one step on; the sides; in the working lists p and y of the downward pass, as a step call leaves them; and what
-- the step behind it asks
pub record Stepped (sheet : List ℕ) (n : ℕ) (sides : List ℕ) (state : State) (working : Working) (u' : ℕ) (sides' : List ℕ) (state' : State) (working' : Working) : Type 0 where
  pub state_is : state' ≡ own_step sheet u' state
  pub sides_are : SidesAre (sides_after sheet state.steps (sides_of sides)) sides sides'
  pub working_is : let x = sides_for sheet state.steps (sides_of sides) in working' ≡ (step_left n x.old x.new state [] working u').working
  pub working_passed : working' ≡ own_working sheet u' state working
  pub ready : Ready sheet n sides' state' working'
