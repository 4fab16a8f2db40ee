-- Beside each claim: a case that meets its premises, and cases that its conclusion shuts out. proofs/Witnesses shows them of the definitions, and
-- pool_laws/proofs/Witnesses those of calls on a pool, which take longer to work out.
use Rattle.std.specs.Prelude.{◌≡◌, true, List, [], ◌∷◌, ◌++◌, ℕ, ◌*◌, T, pos, replicate, take}
use Rattle.std.proofs.Math.Option.{Option, none, some}
use Rattle.std.proofs.Common.{arith}
use Rattle.fractions.specs.Fractions.{Fraction, whole}
use Rattle.model.specs.Sheet.{segment_count}
use Rattle.model.specs.HalfStep.{Segment}
use Rattle.model.specs.ExactRiver.{ExactFigures}
use Rattle.model.specs.State.{NumberSet, Columns, segment_at, loaded_segments, State, figures_of}
use Rattle.model.specs.Refusals.{nothing, Outcome, accepted, refused, passes, fails}
use Rattle.model.specs.Load.{loaded, load_answer, load_columns}
use Rattle.model.specs.Calls.{Working, Reported, Call, start, step, report, call_result}
use Rattle.model.specs.Search.{SearchAnswer, Tells}
use Rattle.model.specs.Runs.{LoneCall, alone, accepts, after, run, AllAccepted, HighestFigures, left_since, AsLoaded, PairAsLoaded, LentFrom, Fed, events}
use Rattle.model.specs.Runs.{Exact, no_river, ExactRun}
use Rattle.model.specs.Claim.{SamePast, Near, FiguresOf, Holds, Demand3, LeftFor, LoadedLists}
use Rattle.model.specs.Pool.{is_open, vacant, slot_of, Pool, state_of, pool_result, PoolSearchAnswer, open_answer, open_columns, close_finding}
use Rattle.model.specs.PoolRuns.{PoolCall, opening, on_river, closing, pool_accepts, after_call, run_pool, Own, own_since, highest_since}
use Rattle.model.specs.PoolClaim.{NoneOpen, OpensAlone, NotOpen, AsAlone, Opened, Sharing, OpenedLists}
use Rattle.model.specs.SearchClaim.{SearchTold, PoolSearchTold}
use Rattle.model.specs.Bench.{zeros, no_state, no_work, listed, listed_state}
use Rattle.model.specs.FlowBench.{melting}
use Rattle.model.specs.PoolBench.{overlapping, pool_with, sheet_with_start}

-- ---- demand 3: its premises

-- what a loading of the sheet `melting`, whose flow changes at steps 1 and 3, leaves for flow r
unfoldable pub melting_for : (r : ℕ) → Columns
melting_for r = load_columns melting r 1 (zeros 2)

-- a start with U 3,000
unfoldable pub melting_start : LoneCall
melting_start = alone 2 (start (melting_for 0) (0 ∷ []) 3000)

-- a step from flow r to flow s, with U' 3,000 and the sheet's M
unfoldable pub melting_step : (r s : ℕ) → Call
melting_step r s = step (melting_for r).numbers (melting_for s) (0 ∷ []) (no_work 2) 3000 4

-- after a start two steps, of which the first is over a flow row, and a report, which is lent another flow's lists than the start
unfoldable pub melting_steps : List LoneCall
melting_steps = alone 2 (melting_step 0 1) ∷ alone 2 (melting_step 1 1) ∷ alone 2 (report (melting_for 2) 2) ∷ []

unfoldable pub melting_calls : List LoneCall
melting_calls = melting_start ∷ melting_steps

-- a start, a step and a report that are lent nothing
unfoldable pub refused_calls : List LoneCall
refused_calls =
    alone 0 (start (zeros 0) [] 3000) ∷
    alone 0 (step (zeros 0).numbers (zeros 0) [] (no_work 0) 3000 4) ∷
    alone 0 (report (zeros 0) 1) ∷ []

-- every call of a list is refused, in the state that those before it leave
abbrev pub AllRefused : State → List LoneCall → Type 0
AllRefused state [] = Unit {0}
AllRefused state (call ∷ calls) = (T (accepts state call) → ⊥) × AllRefused (after state call) calls

-- the lists of calls that demand 3 speaks of: all accepted, or refused ones between. Of the first it says that there is an exact river, n is 2, and the
-- figures are near it; and that the report gives them
pub record Demand3Met : Type 0 where
  pub all_accepted : AllAccepted (no_state 2) melting_calls
  pub fed : Fed melting (no_state 2) melting_calls
  pub all_refused : AllRefused (after (no_state 2) melting_start) refused_calls
  pub fed_refused : Fed melting (no_state 2) (melting_start ∷ refused_calls ++ melting_steps)
  pub says : Demand3 → (q : Exact) × ExactRun melting no_river (events (no_state 2) melting_calls) q × (q.n ≡ 2)
      × Near (6 * 2) (loaded_segments melting 0) (figures_of (segment_count melting) (run (no_state 2) melting_calls)) q.now
  pub says_report : Demand3 → let state = run (no_state 2) melting_calls in
      (v : Reported) × ((call_result 2 state (report (melting_for 2) 2)).answer ≡ accepted v) × FiguresOf melting state 2 v
  pub says_refused : Demand3 → Holds melting (no_state 2) (melting_start ∷ refused_calls ++ melting_steps)

-- what is asked that accepted calls are lent is what a loading leaves and no more, whatever the state and whatever is handed with it
abbrev pub LentBench : Type 0
LentBench =
    (sheet : List ℕ) (state : State) (n : ℕ) (columns : Columns) →
    (AsLoaded sheet n columns → (highest : List ℕ) (u : ℕ) → LentFrom sheet state (alone n (start columns highest u)))
    × (AsLoaded sheet n columns → (number : ℕ) → LentFrom sheet state (alone n (report columns number)))
    × ((old : NumberSet) → PairAsLoaded sheet state.steps n old columns → (highest : List ℕ) (working : Working) (u' M : ℕ) →
    LentFrom sheet state (alone n (step old columns highest working u' M)))

-- ---- demand 3: its conclusion

-- two segments with Kd 2, whose exact figures are 1,000, 2,000 and 3,000
unfoldable pub kd2 : List Segment
kd2 = let x = segment_at (record { numbers = (zeros 1).numbers; cl = []; cb = []; kd = 2 ∷ []; start = [] }) 0 in x ∷ x ∷ []

unfoldable pub exactly : ExactFigures
exactly = record { c = whole 1000; z = whole 2000; w = whole 3000 }

-- after one step a state is near them whose two segments have the figures c, z, w and c', z', w'
abbrev pub NearAt1 : (c z w c' z' w' : ℕ) → Type 0
NearAt1 c z w c' z' w' =
    Near (6 * 1) kd2 (record { c = c; z = z; w = w } ∷ record { c = c'; z = z'; w = w' } ∷ []) (exactly ∷ exactly ∷ [])

-- figures 6 off are near, a figure 7 off is not: channel, storage or sediment, above or below, in either segment
abbrev pub NearBench : Type 0
NearBench =
    NearAt1 1006 1994 3006 994 2006 2994
    × (NearAt1 1007 2000 3000 1000 2000 3000 → ⊥)
    × (NearAt1 993 2000 3000 1000 2000 3000 → ⊥)
    × (NearAt1 1000 2007 3000 1000 2000 3000 → ⊥)
    × (NearAt1 1000 1993 3000 1000 2000 3000 → ⊥)
    × (NearAt1 1000 2000 3007 1000 2000 3000 → ⊥)
    × (NearAt1 1000 2000 2993 1000 2000 3000 → ⊥)
    × (NearAt1 1000 2000 3000 1007 2000 3000 → ⊥)
    × (NearAt1 1000 2000 3000 1000 2000 2993 → ⊥)

-- the figures of two segments in halves: 1,000, 2,000 and 3,000, and of the second these
unfoldable pub halves : (c z w : ℕ) → List ExactFigures
halves c z w =
    let half : ℕ → Fraction = λ k. record { num = pos k; den = 2; above = omega arith } in
    record { c = half 2000; z = half 4000; w = half 6000 } ∷ record { c = half c; z = half z; w = half w } ∷ []

-- at two steps, the exact figures above and these
abbrev pub SameAt : (latest before : List ExactFigures) → Type 0
SameAt latest before = SamePast ((exactly ∷ exactly ∷ []) ∷ (exactly ∷ exactly ∷ []) ∷ []) (latest ∷ before ∷ [])

-- 2,000 is 4,000/2; 1,000 is not 2,001/2, nor are the others, at the latest of the steps before or at the one before it; as many steps are asked for
abbrev pub SamePastBench : Type 0
SamePastBench =
    SameAt (halves 2000 4000 6000) (halves 2000 4000 6000)
    × (SameAt (halves 2001 4000 6000) (halves 2000 4000 6000) → ⊥)
    × (SameAt (halves 2000 4001 6000) (halves 2000 4000 6000) → ⊥)
    × (SameAt (halves 2000 4000 6001) (halves 2000 4000 6000) → ⊥)
    × (SameAt (halves 2000 4000 6000) (halves 2000 4001 6000) → ⊥)
    × (SamePast ((exactly ∷ exactly ∷ []) ∷ (exactly ∷ exactly ∷ []) ∷ []) (halves 2000 4000 6000 ∷ []) → ⊥)

-- what a report of the listing's river may give after step 1: the figures of its line, and no other, nor those of a segment that there is not
abbrev pub FiguresBench : Type 0
FiguresBench =
    let Gives : (number c z kdw : ℕ) → Type 0 =
    λ number c z kdw. FiguresOf listed (listed_state 1) number (record { channel = c; storage = z; sediment = kdw }) in
    Gives 1 2000 400 1334
    × (Gives 0 2000 400 1334 → ⊥)
    × (Gives 2 0 0 0 → ⊥)
    × (Gives 1 2001 400 1334 → ⊥)
    × (Gives 1 2000 401 1334 → ⊥)
    × (Gives 1 2000 400 1333 → ⊥)

-- ---- what a loading leaves

-- of a sheet that is accepted: for the step from 0 to 1, over a flow row
pub record LoadedListsMet : Type 0 where
  pub loads : load_answer melting 2 1 (zeros 2) ≡ accepted (loaded melting)
  pub left : LoadedLists → LeftFor melting 2 2 (melting_for 2)
  pub pairs : LoadedLists → PairAsLoaded melting 0 2 (melting_for 0).numbers (melting_for 1)

-- lists of zeros are not what it leaves, nor are those of another flow, nor of a flow that there is not
abbrev pub LeftBench : Type 0
LeftBench =
    (LeftFor melting 0 2 (zeros 2) → ⊥)
    × (LeftFor melting 1 2 (melting_for 0) → ⊥)
    × (LeftFor melting 3 2 (melting_for 3) → ⊥)

-- what the step from 0 to 1 is to be lent is neither flow 1 on both sides nor flow 0 on both
abbrev pub PairBench : Type 0
PairBench =
    (PairAsLoaded melting 0 2 (melting_for 1).numbers (melting_for 1) → ⊥)
    × (PairAsLoaded melting 0 2 (melting_for 0).numbers (melting_for 0) → ⊥)

-- ---- several rivers: the premises

-- no river is open, and each shared list has 1,024 entries
unfoldable pub all_closed : Pool
all_closed = let x : List ℕ = replicate 1024 0 in record { table = replicate 8 vacant; channel = x; storage = x; sediment = x }

-- river 1 is opened behind river 2 and stepped over a flow row; river 2 is closed meanwhile
unfoldable pub pool_calls : List PoolCall
pool_calls =
    opening 2 (sheet_with_start 100 3) 0 1 (zeros 3) (0 ∷ []) 0
    ∷ opening 1 melting 0 1 (zeros 2) (0 ∷ []) 3000
    ∷ on_river 1 (melting_step 0 1)
    ∷ closing 2
    ∷ on_river 1 (melting_step 1 1)
    ∷ on_river 1 (report (melting_for 2) 2)
    ∷ []

-- every call of a list is accepted, in the pool that those before it leave
abbrev pub AllAcceptedOn : Pool → List PoolCall → Type 0
AllAcceptedOn pool [] = Unit {0}
AllAcceptedOn pool (call ∷ calls) = T (pool_accepts pool call) × AllAcceptedOn (after_call pool call) calls

-- river 1's own calls, where these are those since its opening
unfoldable pub river1_with : (since : List LoneCall) → Own
river1_with since = record { sheet = melting; count = 2; columns = melting_for 0; highest = 0 ∷ []; u = 3000; since = since }

-- those among them: the list that demand 3 is met by
unfoldable pub river1 : Own
river1 = river1_with melting_steps

-- the list is one that `Sharing` speaks of, none of its calls being refused. Of river 1, which is open, it gives demand 3 of its own calls and that it can be
-- closed; of river 2, which is closed, that its calls are refused 18; of an opening under number 2 that it is answered as with none open, or refused 17
pub record SharingMet : Type 0 where
  pub none_open : NoneOpen all_closed
  pub all_accepted : AllAcceptedOn all_closed pool_calls
  pub own : own_since 1 all_closed pool_calls none ≡ some river1
  pub says : Sharing → Holds melting (no_state 2) melting_calls × (close_finding (run_pool all_closed pool_calls).table 1 ≡ passes)
  pub says_closed : Sharing → let pool = run_pool all_closed pool_calls in
      ((pool_result pool 2 (start (zeros 3) (0 ∷ []) 0)).answer ≡ refused 18 nothing)
      × ((pool_result pool 2 (step (zeros 3).numbers (zeros 3) (0 ∷ []) (no_work 3) 0 1)).answer ≡ refused 18 nothing)
      × ((pool_result pool 2 (report (zeros 3) 1)).answer ≡ refused 18 nothing)
      × (close_finding pool.table 2 ≡ fails 18 nothing)
  pub says_opening : Sharing → OpensAlone (run_pool all_closed pool_calls) 2

-- `OpenedLists` of its opening of river 1
pub record OpenedListsMet : Type 0 where
  pub opens : open_answer melting 0 1 (zeros 2) all_closed 1 (0 ∷ []) 3000 ≡ accepted (loaded melting)
  pub left : OpenedLists → LeftFor melting 0 2 (open_columns melting 0 1 (zeros 2) all_closed 1 (0 ∷ []) 3000)
  pub pairs : OpenedLists → PairAsLoaded melting 0 2 (open_columns melting 0 1 (zeros 2) all_closed 1 (0 ∷ []) 3000).numbers (melting_for 1)

-- ---- several rivers: the conclusion

-- of an open river it is not said that it is closed, nor of a closed one that it is open, nor of river 1 that its second step was not made
abbrev pub ShownBench : Type 0
ShownBench =
    let pool = run_pool all_closed pool_calls in
    (NotOpen pool 1 → ⊥)
    × ((own : Own) → Opened pool 2 own → ⊥)
    × (AsAlone pool 1 (river1_with (take 1 melting_steps)) (no_state 2) → ⊥)

-- in a table whose rivers overlap an opening is refused 18, which with none open it is not: this is shut out
abbrev pub OpensAloneBench : Type 0
OpensAloneBench = OpensAlone (pool_with overlapping 1024) 3 → ⊥

-- ---- the search

-- "every choice is a segment of the river above the limit, in such a block": of 5, 9 and 2 with limit 6 the second segment is one, the others and one
-- behind the river are not, nor is none, nor a refusal; where its block's highest figure is not above the limit, none is the answer, and the second segment is not
abbrev pub SearchAnswersBench : Type 0
SearchAnswersBench =
    let Answers : (highest : ℕ) → Outcome (Option ℕ) → Type 0 =
    λ highest answer. SearchAnswer 3 (5 ∷ 9 ∷ 2 ∷ 8 ∷ []) (highest ∷ []) 6 answer in
    Answers 9 (accepted (some 2))
    × (Answers 9 (accepted (some 1)) → ⊥)
    × (Answers 9 (accepted (some 3)) → ⊥)
    × (Answers 9 (accepted (some 4)) → ⊥)
    × (Answers 9 (accepted none) → ⊥)
    × (Answers 9 (refused 13 nothing) → ⊥)
    × Answers 6 (accepted none)
    × (Answers 6 (accepted (some 2)) → ⊥)

-- and what is promised of lists as they were left: with limit 6 neither none nor a refusal, with limit 9 no segment
abbrev pub TellsBench : Type 0
TellsBench =
    let Told : (limit : ℕ) → Outcome (Option ℕ) → Type 0 = λ limit answer. Tells 3 (5 ∷ 9 ∷ 2 ∷ 8 ∷ []) limit answer in
    Told 6 (accepted (some 2))
    × (Told 6 (accepted none) → ⊥)
    × (Told 6 (refused 13 nothing) → ⊥)
    × Told 9 (accepted none)
    × (Told 9 (accepted (some 2)) → ⊥)

-- after the calls of demand 3 a segment of the river is above 100 ng/L, and the search that names the first may answer so: it is one that the promise
-- speaks of
pub record SearchMet : Type 0 where
  pub left : HighestFigures
  pub leaves : left_since (no_state 2) melting_calls none ≡ some left
  pub answers : SearchAnswer left.count (run (no_state 2) melting_calls).channel left.highest 100 (accepted (some 1))
  pub says : SearchTold → Tells left.count (run (no_state 2) melting_calls).channel 100 (accepted (some 1))

-- the same of river 1 after the calls on the pool
pub record PoolSearchMet : Type 0 where
  pub opened : is_open (slot_of (run_pool all_closed pool_calls).table 1) ≡ true
  pub answers : let pool = run_pool all_closed pool_calls in
      PoolSearchAnswer pool.table pool.channel 1 (highest_since 1 all_closed pool_calls []) 100 (accepted (some 1))
  pub says : PoolSearchTold → let pool = run_pool all_closed pool_calls in
      Tells (slot_of pool.table 1).segments (state_of pool 1).channel 100 (accepted (some 1))
