-- Document 02, 7: "When will it reach the gate?" A forecast on lists alone and on a river of a pool: its tests, what it answers and what it leaves.
use Rattle.std.specs.Prelude.{Bool, not, cond, ◌||◌, List, [], ◌∷◌, ◌++◌, ℕ, zero, suc, ◌+◌, ◌-◌, ◌*◌, min, eqb, ltb, leb, length, get_or}
use Rattle.std.proofs.Math.Option.{Option, none, some}
use Rattle.lists.specs.Lists.{tab, over, lowest, any_below}
use Rattle.model.specs.Sheet.{steps_m, gauge_count, gauges, segment_count}
use Rattle.model.specs.State.{State, state_lists, figures_at, figures_of, write_figures}
use Rattle.model.specs.Refusals.{segment, Finding, test, test_each}
use Rattle.model.specs.Load.{river_tests}
use Rattle.model.specs.Highest.{block_count, highest_of, blocks_fault}
use Rattle.model.specs.Calls.{river_fault, figure_fault, held_fault, Working, Left, Result, result_of}
use Rattle.model.specs.OwnRiver.{rows_upstream, ahead, working_ahead}
use Rattle.model.specs.Pool.{slot_of, Pool, shared_lists, state_of, pool_tests}

-- what the keeper enters: "a gauge, by its segment number, and a limit", and "a horizon", in steps
pub record Question : Type 0 where
  pub gauge : ℕ
  pub limit : ℕ
  pub horizon : ℕ

-- the live river, which is only read: its segment count, its state and its highest figures
pub record Live : Type 0 where
  pub n : ℕ
  pub state : State
  pub highest : List ℕ

-- what a forecast is lent to write: lists for the copies of the state and the highest figures, one list for the half-step numbers, CL, CB, Kd and
-- start figures of a step's two sides, and working lists
pub record Room : Type 0 where
  pub copies : State
  pub highest : List ℕ
  pub sides : List ℕ
  pub working : Working

-- the lists of a step's two sides: the ten of the old set, and the fourteen with the new one
abbrev pub side_lists : ℕ
side_lists = 24

-- ---- what it says

-- the live river so many steps on: "takes each step's U and pair from" the sheet
abbrev pub state_at : (sheet : List ℕ) → Live → (k : ℕ) → State
state_at sheet live k = ahead (rows_upstream sheet) sheet live.state k

-- "that gauge's channel figure is above the limit" there
unfoldable pub is_above : (sheet : List ℕ) → Live → Question → (k : ℕ) → Bool
is_above sheet live asked k = ltb asked.limit (figures_at (state_at sheet live k) (asked.gauge - 1)).c

-- "the first step, from the present one on, at which" it is, of "the full run over the horizon": so many steps on; where it is at none of them, one
-- more than the horizon
unfoldable pub first_above : (sheet : List ℕ) → Live → Question → ℕ
first_above sheet live asked = lowest (suc asked.horizon) (is_above sheet live asked)

-- "steps there to the first such step, else to the horizon's end"
unfoldable pub steps_made : (sheet : List ℕ) → Live → Question → ℕ
steps_made sheet live asked = min (first_above sheet live asked) asked.horizon

-- what it hands back: the first step, by the count of steps done then, "or none"; and U and the count of the copies
pub record Foreseen : Type 0 where
  pub found : Option ℕ
  pub upstream : ℕ
  pub steps : ℕ

-- those of this forecast
unfoldable pub foreseen : (sheet : List ℕ) → Live → Question → Foreseen
foreseen sheet live asked =
    let k = first_above sheet live asked in
    let stops = state_at sheet live (steps_made sheet live asked) in
    record {
      found = cond (leb k asked.horizon) (some (live.state.steps + k)) none;
      upstream = stops.upstream;
      steps = stops.steps;
    }

-- ---- what it leaves

-- "The forecast copies the state .. into lent lists"
unfoldable pub copied : Live → (copies : State) → State
copied live copies = write_figures (figures_of live.n live.state) live.state.upstream live.state.steps copies

-- "and highest figures": as they are lent where no step is made, else those of the copies' n channel figures
unfoldable pub copied_highest : (n : ℕ) → (live channel highest : List ℕ) → (k : ℕ) → List ℕ
copied_highest n live channel highest zero = over (tab 0 (block_count n) (λ b. get_or live b 0)) highest
copied_highest n live channel highest (suc k) = over (highest_of n channel) highest

-- "The copies are left as at the step it stops at"; the working lists have p and y of the last step
unfoldable pub forecast_left : (sheet : List ℕ) → Live → Room → Question → Left State
forecast_left sheet live room asked =
    let k = steps_made sheet live asked in
    let begun = copied live room.copies in
    let stops = ahead (rows_upstream sheet) sheet begun k in
    record {
      state = stops;
      highest = copied_highest live.n live.highest stops.channel room.highest k;
      working = working_ahead (rows_upstream sheet) sheet begun room.working k;
    }

-- ---- its tests

-- 20. "the gauge is not on the sheet, or present step plus horizon exceeds M"
unfoldable pub forecast_fault : (sheet : List ℕ) → (steps : ℕ) → Question → Bool
forecast_fault sheet steps asked =
    not (any_below (gauge_count sheet) (λ j. eqb (get_or (gauges sheet) j 0) asked.gauge)) || ltb (steps_m sheet) (steps + asked.horizon)

-- 13 of all that is lent, "13 if its segment count is not the river's"; 14 of the live state; 20 "after 14"
unfoldable pub ahead_tests : (sheet : List ℕ) → Live → Room → Question → List Finding
ahead_tests sheet live room asked =
    let n = live.n in
    test 13 (river_fault n (state_lists live.state ++ state_lists room.copies ++ room.working.p ∷ room.working.y ∷ [])
    || blocks_fault n live.highest || blocks_fault n room.highest || ltb (length room.sides) (side_lists * n) || not (eqb (segment_count sheet) n)) ∷
    test_each 14 segment n (λ i. figure_fault (figures_at live.state i)) ∷
    test 14 (held_fault live.state) ∷
    test 20 (forecast_fault sheet live.state.steps asked) ∷
    []

-- "a forecast is lent the sheet, tests it first as loading does", "and never 15"
unfoldable pub forecast_tests : (sheet : List ℕ) → Live → Room → Question → List Finding
forecast_tests sheet live room asked = river_tests sheet ++ ahead_tests sheet live room asked

-- ---- its result

-- that of one with these tests; what it leaves in the list of the sides stands with the code (forecast/specs/Left)
abbrev pub forecast_of : List Finding → (sheet : List ℕ) → Live → Room → Question → Result State Foreseen
forecast_of tests sheet live room asked =
    result_of tests (foreseen sheet live asked) (record { state = room.copies; highest = room.highest; working = room.working })
    (forecast_left sheet live room asked)

-- of a river that has its lists alone
unfoldable pub forecast : (sheet : List ℕ) → Live → Room → Question → Result State Foreseen
forecast sheet live room asked = forecast_of (forecast_tests sheet live room asked) sheet live room asked

-- the river of a number on a pool, with its own highest figures
abbrev pub live_on : Pool → (number : ℕ) → (highest : List ℕ) → Live
live_on pool number highest = record { n = (slot_of pool.table number).segments; state = state_of pool number; highest = highest }

-- behind the sheet's tests 18 and then 13 of the shared lists, as in every call on a pool
unfoldable pub pool_forecast_tests : (sheet : List ℕ) → Pool → (number : ℕ) → (highest : List ℕ) → Room → Question → List Finding
pool_forecast_tests sheet pool number highest room asked =
    river_tests sheet ++ pool_tests pool.table (shared_lists pool) number ++ ahead_tests sheet (live_on pool number highest) room asked

-- of an open river on a pool, which does not move
unfoldable pub pool_forecast : (sheet : List ℕ) → Pool → (number : ℕ) → (highest : List ℕ) → Room → Question → Result State Foreseen
pool_forecast sheet pool number highest room asked =
    forecast_of (pool_forecast_tests sheet pool number highest room asked) sheet (live_on pool number highest) room asked
