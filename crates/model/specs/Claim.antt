-- Demand 3, "one claim about the whole list and not one for each call".
use Rattle.std.specs.Prelude.{◌≡◌, List, [], ◌∷◌, false, ℕ, suc, ◌-◌, ◌*◌, ◌≤◌, T, length}
use Rattle.lists.specs.Lists.{any_shorter}
use Rattle.fractions.specs.Fractions.{Same, Within, ◌·◌}
use Rattle.model.specs.Sheet.{Reach, segment_count, flow_row_count}
use Rattle.model.specs.Flow.{course_of, flow_in_force}
use Rattle.model.specs.HalfStep.{Segment, loaded_segment}
use Rattle.model.specs.Equations.{Figures}
use Rattle.model.specs.ExactRiver.{ExactFigures}
use Rattle.model.specs.State.{Columns, column_lists, loaded_segments, State, figures_at, figures_of}
use Rattle.model.specs.Refusals.{accepted}
use Rattle.model.specs.Load.{Loaded, load_answer, load_columns}
use Rattle.model.specs.Calls.{Reported, start, report, call_result}
use Rattle.model.specs.Runs.{LoneCall, alone, accepts, run, LoadedFor, SetFor, AsLoaded, PairAsLoaded, Fed, events, Exact, no_river, ExactRun}

-- two lists "hold the same figures", segment by segment
pub data SameFigures : List ExactFigures → List ExactFigures → Type 0 where
  none : SameFigures [] []
  cons : {f g : ExactFigures} {fs gs : List ExactFigures} → Same f.c g.c → Same f.z g.z → Same f.w g.w →
      SameFigures fs gs → SameFigures (f ∷ fs) (g ∷ gs)

-- the same at each step before
pub data SamePast : List (List ExactFigures) → List (List ExactFigures) → Type 0 where
  none : SamePast [] []
  cons : {fs gs : List ExactFigures} {before before' : List (List ExactFigures)} → SameFigures fs gs → SamePast before before' →
      SamePast (fs ∷ before) (gs ∷ before')

-- "the state's C and Z differ either way by at most" k "from the exact ones, and Kd × W by at most" k × Kd "from Kd times the exact
-- W", in every segment
pub data Near (k : ℕ) : List Segment → List Figures → List ExactFigures → Type 0 where
  none : Near k [] [] []
  cons : {x : Segment} {f : Figures} {q : ExactFigures} {xs : List Segment} {fs : List Figures} {qs : List ExactFigures} →
      Within k f.c q.c → Within k f.z q.z → Within (k * x.kd) (x.kd * f.w) (x.kd · q.w) →
      Near k xs fs qs → Near k (x ∷ xs) (f ∷ fs) (q ∷ qs)

-- "these figures of the state": C, Z and Kd × W of the segment with this number, which is one of the river's
pub record FiguresOf (sheet : List ℕ) (state : State) (number : ℕ) (v : Reported) : Type 0 where
  pub first : 1 ≤ number
  pub last : number ≤ segment_count sheet
  pub channel : v.channel ≡ (figures_at state (number - 1)).c
  pub storage : v.storage ≡ (figures_at state (number - 1)).z
  pub sediment : v.sediment ≡ (loaded_segment (course_of sheet 0) (number - 1)).kd * (figures_at state (number - 1)).w

-- after a list of calls from a state, on a river of this sheet
pub record Holds (sheet : List ℕ) (before : State) (calls : List LoneCall) : Type 0 where
  -- "Such fractions always exist"
  pub exists : (q : Exact) × ExactRun sheet no_river (events before calls) q
  -- "any two lists of them, for all segments at steps 0 to n, hold the same figures"
  pub unique : (q r : Exact) → ExactRun sheet no_river (events before calls) q →
      ExactRun sheet no_river (events before calls) r →
      (SameFigures q.now r.now) × (SamePast q.past r.past)
  -- "n counts the steps accepted since the latest accepted start, and the state's count equals it"
  pub counted : (q : Exact) → ExactRun sheet no_river (events before calls) q → (run before calls).steps ≡ q.n
  -- "After the list, in every segment, .. at most 6 × n .. at most 6 × n × Kd"
  pub near : (q : Exact) → ExactRun sheet no_river (events before calls) q →
      Near (6 * q.n) (loaded_segments sheet 0) (figures_of (segment_count sheet) (run before calls)) q.now
  -- "an accepted report made then gives these figures of the state"
  pub reports : (n : ℕ) (columns : Columns) (number : ℕ) (v : Reported) → AsLoaded sheet n columns →
      (call_result n (run before calls) (report columns number)).answer ≡ accepted v →
      FiguresOf sheet (run before calls) number v

-- "A run is one accepted loading, one accepted start into lists of any content, then any list of starts, steps and reports, refused
-- ones included." The loading is handed a flow row's number and lent a list of reach records and the fourteen lists.
abbrev pub Demand3 : Type 0
Demand3 =
    (sheet : List ℕ) (r : ℕ) (records : List Reach) (columns : Columns) (v : Loaded) →
    load_answer sheet r (length records) columns ≡ accepted v →
    (before : State) (n : ℕ) (lent : Columns) (highest : List ℕ) (u : ℕ) (calls : List LoneCall) →
    let first = alone n (start lent highest u) in
    T (accepts before first) → Fed sheet before (first ∷ calls) → Holds sheet before (first ∷ calls)

-- what a loading leaves for flow r, in lists of n segments: what an accepted call is to be lent and, as `lists` implies, an old set. `lists` reads
-- 0 past the end of a list, so that 13 of the lists stands beside it.
pub record LeftFor (sheet : List ℕ) (r n : ℕ) (columns : Columns) : Type 0 where
  pub known : r ≤ flow_row_count sheet
  pub lists : LoadedFor sheet r n columns
  pub set : SetFor sheet r n columns.numbers
  pub long : any_shorter n (column_lists columns) ≡ false

-- What accepted calls are to be lent can be had of every accepted sheet, for every step.
pub record LoadedLists : Type 0 where
  -- what an accepted loading leaves in the fourteen lists is what an accepted call is to be lent, its set on either side of a step
  pub left : (sheet : List ℕ) (r : ℕ) (records : List Reach) (columns : Columns) (v : Loaded) →
      load_answer sheet r (length records) columns ≡ accepted v →
      LeftFor sheet r v.segments (load_columns sheet r (length records) columns)
  -- a loading that is accepted for one flow of the sheet is accepted for each of them
  pub flows : (sheet : List ℕ) (r : ℕ) (records : List Reach) (columns : Columns) (v : Loaded) →
      load_answer sheet r (length records) columns ≡ accepted v →
      (other : ℕ) → other ≤ flow_row_count sheet → load_answer sheet other (length records) columns ≡ accepted v
  -- so the loadings for the flows in force at steps n and n + 1 are accepted, and what they leave is the pair of the step from n to n + 1
  pub pairs : (sheet : List ℕ) (r r' : ℕ) (records records' : List Reach) (columns columns' : Columns) (v v' : Loaded) →
      load_answer sheet r (length records) columns ≡ accepted v → load_answer sheet r' (length records') columns' ≡ accepted v' → (n : ℕ) →
      (load_answer sheet (flow_in_force sheet n) (length records) columns ≡ accepted v)
      × (load_answer sheet (flow_in_force sheet (suc n)) (length records') columns' ≡ accepted v')
      × PairAsLoaded sheet n v'.segments (load_columns sheet (flow_in_force sheet n) (length records) columns).numbers
      (load_columns sheet (flow_in_force sheet (suc n)) (length records') columns')
