-- Document 02, 7, what is promised of a forecast: it "must say what the full run over the horizon would have said", its copies are what as many step
-- calls would leave, and demand 3 holds of them.
use Rattle.std.specs.Prelude.{◌≡◌, false, List, ◌∷◌, ◌++◌, ◌⊎◌, ℕ, suc, ◌+◌, ◌-◌, ◌*◌, ◌<◌, ◌≤◌, T, length}
use Rattle.std.proofs.Math.Option.{Option, none, some}
use Rattle.lists.specs.Lists.{tab, any_shorter}
use Rattle.model.specs.Sheet.{Reach, segment_count}
use Rattle.model.specs.State.{Columns, column_lists, loaded_segments, State, figures_of}
use Rattle.model.specs.Refusals.{nothing, accepted, refused, passes, first}
use Rattle.model.specs.Load.{river_tests, Loaded, load_answer}
use Rattle.model.specs.Calls.{Reported, start, report, call_result}
use Rattle.model.specs.Runs.{LoneCall, alone, accepts, after, run, OwnLists, AsLoaded, Fed, Event, moved, events, Exact, no_river, ExactRun}
use Rattle.model.specs.Claim.{SameFigures, SamePast, Near}
use Rattle.model.specs.OwnRiver.{rows_upstream, Alike}
use Rattle.model.specs.OwnRiverClaim.{OwnCalls, OwnRun}
use Rattle.model.specs.Pool.{Pool, state_of}
use Rattle.model.specs.PoolRuns.{PoolCall, run_pool, Own, own_start, own_calls, own_since}
use Rattle.model.specs.PoolClaim.{NoneOpen}
use Rattle.forecast_model.specs.Forecast.{Question, Live, Room, Foreseen, forecast, pool_forecast}

-- a report of the gauge in this state, lent what a loading of the sheet leaves, is accepted, and its channel figure is c
abbrev pub Shows : (sheet : List ℕ) → State → (gauge c : ℕ) → Type 0
Shows sheet state gauge c =
    (columns : Columns) → AsLoaded sheet (segment_count sheet) columns → any_shorter (segment_count sheet) (column_lists columns) ≡ false →
    (v : Reported) × ((call_result (segment_count sheet) state (report columns gauge)).answer ≡ accepted v) × (v.channel ≡ c)

-- what a forecast says of a gauge that shows c where it stops: above there, or not, and then it went to the horizon's end
abbrev pub Says : (steps : ℕ) → Question → Foreseen → (c : ℕ) → Type 0
Says steps asked v c =
    ((v.found ≡ some v.steps) × (asked.limit < c)) ⊎ ((v.found ≡ none) × (c ≤ asked.limit) × (v.steps ≡ steps + asked.horizon))

-- a forecast from this state that hands back v and leaves these copies, beside step calls with the sheet's pairs, U' and M, and reports of the gauge
pub record Foretold (sheet : List ℕ) (state : State) (asked : Question) (v : Foreseen) (copies : State) : Type 0 where
  -- such step calls can be had, any number of them
  pub exist : (k : ℕ) → (calls : List LoneCall) × OwnCalls (rows_upstream sheet) sheet state.steps calls × (length calls ≡ k)
  -- up to the horizon's end none is refused
  pub runs : (calls : List LoneCall) → OwnCalls (rows_upstream sheet) sheet state.steps calls → length calls ≤ asked.horizon →
      OwnRun (rows_upstream sheet) sheet state calls
  -- it stops at the present step or behind it, and not behind the horizon's end
  pub from : state.steps ≤ v.steps
  pub to : v.steps ≤ state.steps + asked.horizon
  -- behind fewer calls than bring the count to where it stops the gauge is not above the limit
  pub before : (calls : List LoneCall) → OwnCalls (rows_upstream sheet) sheet state.steps calls → state.steps + length calls < v.steps →
      (c : ℕ) × Shows sheet (run state calls) asked.gauge c × (c ≤ asked.limit)
  -- behind as many it says what the report shows, and its copies are the state that the calls leave
  pub stops : (calls : List LoneCall) → OwnCalls (rows_upstream sheet) sheet state.steps calls → state.steps + length calls ≡ v.steps →
      (c : ℕ) × Shows sheet (run state calls) asked.gauge c × Says state.steps asked v c × Alike (segment_count sheet) copies (run state calls)
  -- U and the count that it hands back are the copies'
  pub upstream : copies.upstream ≡ v.upstream
  pub steps : copies.steps ≡ v.steps

-- the claim, of every accepted forecast, whatever the live river was fed
abbrev pub ForecastSays : Type 0
ForecastSays =
    (sheet : List ℕ) (live : Live) (room : Room) (asked : Question) (v : Foreseen) → (forecast sheet live room asked).answer ≡ accepted v →
    Foretold sheet live.state asked v (forecast sheet live room asked).left.state

-- what the exact river is fed of the steps from count n to count m
abbrev pub moves : (sheet : List ℕ) → (n m : ℕ) → List Event
moves sheet n m = tab (suc n) (m - n) (λ j. moved (rows_upstream sheet j))

-- demand 3 of the copies, where the exact river is fed this: 6 × n, with the copies' count for n
pub record CopiesHold (sheet : List ℕ) (fed : List Event) (copies : State) : Type 0 where
  pub exists : (q : Exact) × ExactRun sheet no_river fed q
  pub unique : (q r : Exact) → ExactRun sheet no_river fed q → ExactRun sheet no_river fed r →
      (SameFigures q.now r.now) × (SamePast q.past r.past)
  pub counted : (q : Exact) → ExactRun sheet no_river fed q → copies.steps ≡ q.n
  pub near : (q : Exact) → ExactRun sheet no_river fed q →
      Near (6 * copies.steps) (loaded_segments sheet 0) (figures_of (segment_count sheet) copies) q.now

-- after every list of calls that demand 3 speaks of: the copies of a forecast that is accepted then
abbrev pub ForecastNear : Type 0
ForecastNear =
    (sheet : List ℕ) (r : ℕ) (records : List Reach) (columns : Columns) (v : Loaded) →
    load_answer sheet r (length records) columns ≡ accepted v →
    (before : State) (n : ℕ) (lent : Columns) (figures : List ℕ) (u : ℕ) (calls : List LoneCall) →
    let first = alone n (start lent figures u) in
    T (accepts before first) → Fed sheet before (first ∷ calls) →
    let state = run before (first ∷ calls) in
    (m : ℕ) (highest : List ℕ) (room : Room) (asked : Question) (w : Foreseen) →
    let x = forecast sheet (record { n = m; state = state; highest = highest }) room asked in
    x.answer ≡ accepted w → CopiesHold sheet (events before (first ∷ calls) ++ moves sheet state.steps w.steps) x.left.state

-- the river with this number, by its own calls. One that is not open: 18, where the sheet's tests pass
abbrev pub ForecastOf : Pool → (number : ℕ) → Option Own → Type 0
ForecastOf pool number none =
    (sheet highest : List ℕ) (room : Room) (asked : Question) → first (river_tests sheet) ≡ passes →
    (pool_forecast sheet pool number highest room asked).answer ≡ refused 18 nothing
-- an open one with these own calls, beside the same calls made alone, from lists of any content
ForecastOf pool number (some own) =
    (before : State) → OwnLists own.count before →
    let state = run before (own_calls own) in
    -- a forecast answers and leaves what it would alone
    ((sheet highest : List ℕ) (room : Room) (asked : Question) →
    pool_forecast sheet pool number highest room asked ≡ forecast sheet (record { n = own.count; state = state; highest = highest }) room asked)
    -- and so of one with the river's sheet the same is promised
    × (Fed own.sheet (after before (own_start own)) own.since → (highest : List ℕ) (room : Room) (asked : Question) (v : Foreseen) →
    let x = pool_forecast own.sheet pool number highest room asked in
    x.answer ≡ accepted v →
    Foretold own.sheet (state_of pool number) asked v x.left.state
    × CopiesHold own.sheet (events before (own_calls own) ++ moves own.sheet state.steps v.steps) x.left.state)

-- the claim on a pool: after every list of calls, begun with none open, of every number
abbrev pub PoolForecastSays : Type 0
PoolForecastSays =
    (before : Pool) → NoneOpen before → (calls : List PoolCall) (number : ℕ) → ForecastOf (run_pool before calls) number (own_since number before calls none)
