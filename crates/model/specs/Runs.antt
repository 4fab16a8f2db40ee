-- Document 01, "The run and its exact river", with document 02, 1 and 5: lists of calls, what they leave, and the exact river that is fed them.
use Rattle.std.specs.Prelude.{◌≡◌, Bool, true, false, cond, List, [], ◌∷◌, map, ℕ, suc, ◌≤◌, T, length}
use Rattle.std.proofs.Math.Option.{Option, some}
use Rattle.lists.specs.Lists.{tab}
use Rattle.fractions.specs.Fractions.{whole}
use Rattle.model.specs.Sheet.{segment_count, flow_row_count}
use Rattle.model.specs.Flow.{course_of, flow_in_force, reach_at}
use Rattle.model.specs.HalfStep.{site_at, numbers, Segment}
use Rattle.model.specs.Equations.{Pair}
use Rattle.model.specs.ExactRiver.{ExactFigures, ExactStep}
use Rattle.model.specs.State.{NumberSet, numbers_of, Columns, segments_of, loaded_segments, loaded_numbers, State}
use Rattle.model.specs.Refusals.{is_accepted}
use Rattle.model.specs.Calls.{Call, start, step, report, call_result, leaves_highest}

-- a call on a river that has its lists alone, which is handed their segment count
pub data LoneCall : Type 0 where
  alone : (n : ℕ) → Call → LoneCall

-- the lists of a river that has them alone: n entries each, of any content
pub record OwnLists (n : ℕ) (state : State) : Type 0 where
  pub channel : length state.channel ≡ n
  pub storage : length state.storage ≡ n
  pub sediment : length state.sediment ≡ n

-- the call is accepted
unfoldable pub accepts : State → LoneCall → Bool
accepts state (alone n call) = is_accepted (call_result n state call).answer

-- the state that it leaves; "A report or a refused call leaves the state as it was."
unfoldable pub after : State → LoneCall → State
after state (alone n call) = (call_result n state call).left.state

-- "Every call is lent the state as the call before left it"
unfoldable pub run : State → List LoneCall → State
run state [] = state
run state (call ∷ calls) = run (after state call) calls

-- every call of a list is accepted, in the state that those before it leave
abbrev pub AllAccepted : State → List LoneCall → Type 0
AllAccepted state [] = Unit {0}
AllAccepted state (call ∷ calls) = T (accepts state call) × AllAccepted (after state call) calls

-- the highest figures of a river of this many segments
pub record HighestFigures : Type 0 where
  pub count : ℕ
  pub highest : List ℕ

-- those after an accepted call in this state: a start's or a step's own; a report leaves those before it
abbrev pub leaves : State → LoneCall → (before : Option HighestFigures) → Option HighestFigures
leaves state (alone n call) before = cond (leaves_highest call) (some (record { count = n; highest = (call_result n state call).left.highest })) before

-- those that the latest accepted start or step of a list of calls from a state left; `before` are those before the list
unfoldable pub left_since : State → List LoneCall → (before : Option HighestFigures) → Option HighestFigures
left_since state [] before = before
left_since state (call ∷ calls) before = left_since (after state call) calls (cond (accepts state call) (leaves state call before) before)

-- "the half-step numbers, CL, CB, Kd and start figures as loaded from the sheet, with its segment count", for flow r
pub record LoadedFor (sheet : List ℕ) (r n : ℕ) (columns : Columns) : Type 0 where
  pub count : n ≡ segment_count sheet
  pub segments : segments_of n columns ≡ loaded_segments sheet r

-- a set that is lent to a river of n segments is flow r's, as loaded
abbrev pub SetFor : (sheet : List ℕ) → (r n : ℕ) → NumberSet → Type 0
SetFor sheet r n set = numbers_of n set ≡ loaded_numbers sheet r

-- a start and a report are lent one set, which may be that of any flow of the sheet
pub record AsLoaded (sheet : List ℕ) (n : ℕ) (columns : Columns) : Type 0 where
  pub flow : ℕ
  pub known : flow ≤ flow_row_count sheet
  pub lists : LoadedFor sheet flow n columns

-- "the accepted step that raises the count from n to n + 1 is lent the pair that the sheet's rows give for step n + 1": on its old side
-- the set of the flow in force at step n, on its new side that of the flow in force at step n + 1
pub record PairAsLoaded (sheet : List ℕ) (n segments : ℕ) (old : NumberSet) (new : Columns) : Type 0 where
  pub before : SetFor sheet (flow_in_force sheet n) segments old
  pub after : LoadedFor sheet (flow_in_force sheet (suc n)) segments new

-- what a call of the run is lent in this state
abbrev pub LentFrom : List ℕ → State → LoneCall → Type 0
LentFrom sheet state (alone n (start columns highest u)) = AsLoaded sheet n columns
LentFrom sheet state (alone n (step old new highest working u' M)) = PairAsLoaded sheet state.steps n old new
LentFrom sheet state (alone n (report columns number)) = AsLoaded sheet n columns

-- "every accepted one" is lent that; refused calls may be lent anything
pub data Fed (sheet : List ℕ) : State → List LoneCall → Type 0 where
  none : {state : State} → Fed sheet state []
  more : {state : State} {call : LoneCall} {calls : List LoneCall} → (T (accepts state call) → LentFrom sheet state call) →
      Fed sheet (after state call) calls → Fed sheet state (call ∷ calls)

-- what the exact river is fed of a call: "its kind, a start's U or a step's U', and whether it was accepted; nothing else".
-- "A report or a refused call does nothing."
pub data Event : Type 0 where
  started : (u : ℕ) → Event
  moved : (u' : ℕ) → Event
  still : Event

-- the event of a call, by whether it was accepted
abbrev pub event : Bool → LoneCall → Event
event false call = still
event true (alone n (start columns highest u)) = started u
event true (alone n (step old new highest working u' M)) = moved u'
event true (alone n (report columns number)) = still

-- those of a list of calls from a state
unfoldable pub events : State → List LoneCall → List Event
events state [] = []
events state (call ∷ calls) = event (accepts state call) call ∷ events (after state call) calls

-- the exact river: its figures, those of the steps before since the latest accepted start, U, and n
pub record Exact : Type 0 where
  pub now : List ExactFigures
  pub past : List (List ExactFigures)
  pub upstream : ℕ
  pub n : ℕ

-- before the first start
abbrev pub no_river : Exact
no_river = record { now = []; past = []; upstream = 0; n = 0 }

-- "C, Z and W of each segment to its start figure"
abbrev pub exact_start : Segment → ExactFigures
exact_start x = record { c = whole x.start; z = whole x.start; w = whole x.start }

-- "the exact river takes the same pair from the sheet": segment i in the step from n to n + 1
abbrev pub sheet_pair : List ℕ → (n : ℕ) → ℕ → Pair
sheet_pair sheet n i =
    let before = course_of sheet (flow_in_force sheet n) in
    let after = course_of sheet (flow_in_force sheet (suc n)) in
    record { old = numbers (site_at before i); new = numbers (site_at after i); cl = (reach_at after i).cl; cb = (reach_at after i).cb }

-- all segments
abbrev pub sheet_pairs : List ℕ → (n : ℕ) → List Pair
sheet_pairs sheet n = tab 0 (segment_count sheet) (sheet_pair sheet n)

-- one event on the sheet's river; start figures are the same for every flow, and those of the flow at the top are taken
pub data ExactEvent (sheet : List ℕ) : Event → Exact → Exact → Type 0 where
  -- "An accepted start sets n to 0, C, Z and W of each segment to its start figure, and U to the one handed."
  starts : {u : ℕ} {q : Exact} →
      ExactEvent sheet (started u) q (record { now = map exact_start (loaded_segments sheet 0); past = []; upstream = u; n = 0 })
  -- "An accepted step adds 1 to n. Its C', Z' and W' are fractions that solve the three equations of all segments together, from the
  -- figures and U before it and its own U'. They then become C, Z and W, and U' becomes U."
  moves : {u' : ℕ} {q : Exact} {new : List ExactFigures} → ExactStep q.upstream u' (sheet_pairs sheet q.n) q.now new →
      ExactEvent sheet (moved u') q (record { now = new; past = q.now ∷ q.past; upstream = u'; n = suc q.n })
  stays : {q : Exact} → ExactEvent sheet still q q

-- a list of events
pub data ExactRun (sheet : List ℕ) : Exact → List Event → Exact → Type 0 where
  none : {q : Exact} → ExactRun sheet q [] q
  more : {q r t : Exact} {e : Event} {es : List Event} → ExactEvent sheet e q r → ExactRun sheet r es t → ExactRun sheet q (e ∷ es) t
