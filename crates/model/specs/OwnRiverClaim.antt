-- What is promised of the sheet's own river: none of its steps is refused up to M, they leave what `OwnRiver` says, and demand 3 holds of it.
use Rattle.std.specs.Prelude.{◌≡◌, false, List, [], ◌∷◌, ℕ, suc, ◌+◌, ◌*◌, ◌<◌, ◌≤◌, T, length}
use Rattle.lists.specs.Lists.{any_shorter}
use Rattle.model.specs.Ranges.{outside, concentration}
use Rattle.model.specs.Sheet.{Reach, steps_m, row_starts, row_concentrations, segment_count}
use Rattle.model.specs.State.{NumberSet, set_lists, Columns, column_lists, loaded_segments, State, state_lists, figures_at, figures_of}
use Rattle.model.specs.Refusals.{nothing, accepted, refused}
use Rattle.model.specs.Load.{Loaded, load_answer}
use Rattle.model.specs.Highest.{blocks_fault}
use Rattle.model.specs.Upstream.{upstream_answer}
use Rattle.model.specs.Calls.{figure_fault, held_fault, Working, start, step, call_result}
use Rattle.model.specs.Runs.{LoneCall, alone, accepts, after, run, AllAccepted, AsLoaded, PairAsLoaded, Fed, Exact, no_river, ExactRun}
use Rattle.model.specs.Claim.{SameFigures, SamePast, Near, Holds}
use Rattle.model.specs.OwnRiver.{rows_upstream, ahead, own_state, Alike, own_events}

-- U at these steps of a river is in range
abbrev pub UpstreamInRange : (u : ℕ → ℕ) → (from M : ℕ) → Type 0
UpstreamInRange u from M = (j : ℕ) → from ≤ j → j ≤ M → outside concentration (u j) ≡ false

-- what a step call from count n is lent: lists as long as 13 wants them, which hold what loadings of the sheet leave for its pair
pub record StepLent (sheet : List ℕ) (n : ℕ) (old : NumberSet) (new : Columns) (highest : List ℕ) (working : Working) : Type 0 where
  pub pair : PairAsLoaded sheet n (segment_count sheet) old new
  pub old_long : any_shorter (segment_count sheet) (set_lists old) ≡ false
  pub new_long : any_shorter (segment_count sheet) (column_lists new) ≡ false
  pub working_long : any_shorter (segment_count sheet) (working.p ∷ working.y ∷ []) ≡ false
  pub blocks : blocks_fault (segment_count sheet) highest ≡ false

-- step calls from count n on: each is lent what belongs to it, and handed U at its own step and the sheet's M
pub data OwnCalls (u : ℕ → ℕ) (sheet : List ℕ) : (n : ℕ) → List LoneCall → Type 0 where
  none : {n : ℕ} → OwnCalls u sheet n []
  more : {n : ℕ} {old : NumberSet} {new : Columns} {highest : List ℕ} {working : Working} {calls : List LoneCall} →
      StepLent sheet n old new highest working → OwnCalls u sheet (suc n) calls →
      OwnCalls u sheet n (alone (segment_count sheet) (step old new highest working (u (suc n)) (steps_m sheet)) ∷ calls)

-- step calls of the sheet's own river from this state: none is refused, they leave the state as many steps on, and each is lent what demand 3 asks
pub record OwnRun (u : ℕ → ℕ) (sheet : List ℕ) (state : State) (calls : List LoneCall) : Type 0 where
  pub accepted : AllAccepted state calls
  pub leaves : run state calls ≡ ahead u sheet state (length calls)
  pub fed : Fed sheet state calls

-- "M or more steps are done": a step call that is lent what belongs to it and handed a U' in range is refused 15, which comes behind 14
abbrev pub Done : List ℕ → State → Type 0
Done sheet state =
    (old : NumberSet) (new : Columns) (highest : List ℕ) (working : Working) (u' : ℕ) → StepLent sheet state.steps old new highest working →
    outside concentration u' ≡ false →
    (call_result (segment_count sheet) state (step old new highest working u' (steps_m sheet))).answer ≡ refused 15 nothing

-- After an accepted loading and an accepted start no step call of the sheet's own river is refused up to M; the calls leave its state at as many
-- steps, whatever lists they are lent, demand 3 holds of them, and the call behind the last is refused 15.
abbrev pub OwnRiverSteps : Type 0
OwnRiverSteps =
    (sheet : List ℕ) (r : ℕ) (records : List Reach) (columns : Columns) (v : Loaded) →
    load_answer sheet r (length records) columns ≡ accepted v →
    (u : ℕ → ℕ) → UpstreamInRange u 0 v.steps → (before : State) (n : ℕ) (lent : Columns) (highest : List ℕ) →
    let first = alone n (start lent highest (u 0)) in
    AsLoaded sheet n lent → T (accepts before first) → (calls : List LoneCall) → OwnCalls u sheet 0 calls → length calls ≤ v.steps →
    OwnRun u sheet (after before first) calls
    × Alike (segment_count sheet) (run before (first ∷ calls)) (own_state u sheet (length calls))
    × Holds sheet before (first ∷ calls)
    × (length calls ≡ v.steps → Done sheet (run before (first ∷ calls)))

-- From any state whose lists pass 13 and whose figures, U and count pass 14 none is refused either, they leave the state as many steps on, and the call
-- behind the last is refused 15; of the exact river nothing is said.
abbrev pub OwnRiverOnwards : Type 0
OwnRiverOnwards =
    (sheet : List ℕ) (r : ℕ) (records : List Reach) (columns : Columns) (v : Loaded) →
    load_answer sheet r (length records) columns ≡ accepted v →
    (state : State) → any_shorter (segment_count sheet) (state_lists state) ≡ false →
    ((i : ℕ) → i < segment_count sheet → figure_fault (figures_at state i) ≡ false) → held_fault state ≡ false →
    (u : ℕ → ℕ) → UpstreamInRange u (suc state.steps) v.steps → (calls : List LoneCall) → OwnCalls u sheet state.steps calls →
    state.steps + length calls ≤ v.steps →
    OwnRun u sheet state calls × (state.steps + length calls ≡ v.steps → Done sheet (run state calls))

-- demand 3 of the sheet's own river at step k
pub record OwnHolds (u : ℕ → ℕ) (sheet : List ℕ) (k : ℕ) : Type 0 where
  pub exists : (q : Exact) × ExactRun sheet no_river (own_events u k) q
  pub unique : (q r : Exact) → ExactRun sheet no_river (own_events u k) q → ExactRun sheet no_river (own_events u k) r →
      (SameFigures q.now r.now) × (SamePast q.past r.past)
  pub counted : (q : Exact) → ExactRun sheet no_river (own_events u k) q → ((own_state u sheet k).steps ≡ k) × (q.n ≡ k)
  pub near : (q : Exact) → ExactRun sheet no_river (own_events u k) q →
      Near (6 * k) (loaded_segments sheet 0) (figures_of (segment_count sheet) (own_state u sheet k)) q.now

-- So demand 3 holds of every state of the sheet's own river, whose figures are those of the listing.
abbrev pub OwnRiverNear : Type 0
OwnRiverNear =
    (sheet : List ℕ) (r : ℕ) (records : List Reach) (columns : Columns) (v : Loaded) →
    load_answer sheet r (length records) columns ≡ accepted v →
    (u : ℕ → ℕ) → UpstreamInRange u 0 v.steps → (k : ℕ) → k ≤ v.steps → OwnHolds u sheet k

-- Of an accepted sheet the call for U at a step gives the rows' U, and it is in range.
abbrev pub RowsUpstream : Type 0
RowsUpstream =
    (sheet : List ℕ) (r : ℕ) (records : List Reach) (columns : Columns) (v : Loaded) →
    load_answer sheet r (length records) columns ≡ accepted v → (j : ℕ) →
    (upstream_answer v.steps j (row_starts sheet) (row_concentrations sheet) ≡ accepted (rows_upstream sheet j))
    × (outside concentration (rows_upstream sheet j) ≡ false)

-- Every accepted sheet has an accepted start and a list of k such step calls, for every k.
abbrev pub OwnCallsExist : Type 0
OwnCallsExist =
    (sheet : List ℕ) (r : ℕ) (records : List Reach) (columns : Columns) (v : Loaded) →
    load_answer sheet r (length records) columns ≡ accepted v → (u : ℕ → ℕ) → outside concentration (u 0) ≡ false → (k : ℕ) →
    (before : State) × (n : ℕ) × (lent : Columns) × (highest : List ℕ) × (calls : List LoneCall) ×
    (AsLoaded sheet n lent × T (accepts before (alone n (start lent highest (u 0)))) × OwnCalls u sheet 0 calls × (length calls ≡ k))
