-- Document 02, 3, what is promised of several rivers, as one claim: "Begun with none open, each call lent what the last one left, an open
-- river shows the figures its accepted calls alone would give, whatever is opened, started, stepped, closed or refused beside it, and demand 3
-- holds of each for its own calls, though others' calls between may move its stretch; only the two new refusals may depend on the others."
use Rattle.std.specs.Prelude.{◌≡◌, true, false, List, ◌⊎◌, ℕ, suc, ◌≤◌, ◌<◌, length}
use Rattle.std.proofs.Math.Option.{Option, none, some}
use Rattle.lists.specs.Lists.{tab}
use Rattle.model.specs.Ranges.{most_rivers}
use Rattle.model.specs.Sheet.{flow_row_count, segment_count}
use Rattle.model.specs.Flow.{flow_in_force}
use Rattle.model.specs.State.{Columns, State}
use Rattle.model.specs.Refusals.{nothing, Outcome, accepted, refused, passes, fails}
use Rattle.model.specs.Load.{Loaded, load_answer, load_columns}
use Rattle.model.specs.Calls.{Call, Result, call_result}
use Rattle.model.specs.Search.{SearchAnswer}
use Rattle.model.specs.Runs.{OwnLists, after, run, PairAsLoaded, Fed}
use Rattle.model.specs.Claim.{Holds, LeftFor}
use Rattle.model.specs.Pool.{is_open, vacant, slot_at, slot_of, Pool, state_of, room_fault, open_answer, open_columns, pool_result, PoolSearchAnswer, close_finding}
use Rattle.model.specs.PoolRuns.{PoolCall, run_pool, Own, own_start, own_calls, own_since}

-- "Begun with none open": a table of eight slots, none of them open, and lists of any length and content
pub record NoneOpen (pool : Pool) : Type 0 where
  pub slots : length pool.table ≡ most_rivers
  pub closed : (i : ℕ) → i < most_rivers → is_open (slot_at pool.table i) ≡ false

-- the pool with no river open
abbrev pub vacated : Pool → Pool
vacated pool =
    record { table = tab 0 most_rivers (λ i. vacant); channel = pool.channel; storage = pool.storage; sediment = pool.sediment }

-- "only the two new refusals may depend on the others": an opening under this number gets the answer that it would get with no river open, or 17
-- refuses it, and then on its ground: the number is outside 1 to 8 or open, or there are not so many segments left. 18, which looks at the table,
-- does not come up in such a list.
abbrev pub OpensAlone : Pool → (number : ℕ) → Type 0
OpensAlone pool number =
    (sheet : List ℕ) (r records : ℕ) (columns : Columns) (highest : List ℕ) (u : ℕ) →
    ((open_answer sheet r records columns pool number highest u ≡ refused 17 nothing) × (room_fault pool.table number (segment_count sheet) ≡ true))
    ⊎ (open_answer sheet r records columns pool number highest u ≡ open_answer sheet r records columns (vacated pool) number highest u)

-- a river that is not open: its other calls are refused with 18
pub record NotOpen (pool : Pool) (number : ℕ) : Type 0 where
  pub closed : 1 ≤ number → number ≤ most_rivers → is_open (slot_of pool.table number) ≡ false
  pub calls : (call : Call) → (pool_result pool number call).answer ≡ refused 18 nothing
  pub searches : (highest : List ℕ) (limit : ℕ) (answer : Outcome (Option ℕ)) →
      PoolSearchAnswer pool.table pool.channel number highest limit answer → answer ≡ refused 18 nothing
  pub closes : close_finding pool.table number ≡ fails 18 nothing

-- two calls answer the same, and leave the same highest figures and working lists
pub record Alike {S T A : Type 0} (x : Result S A) (y : Result T A) : Type 0 where
  pub answer : x.answer ≡ y.answer
  pub highest : x.left.highest ≡ y.left.highest
  pub working : x.left.working ≡ y.left.working

-- an open river with these own calls, beside the same calls made alone, from lists of any content
pub record AsAlone (pool : Pool) (number : ℕ) (own : Own) (before : State) : Type 0 where
  -- "an open river shows the figures its accepted calls alone would give", with U and the count of steps done
  pub figures : state_of pool number ≡ run before (own_calls own)
  -- its calls get the answers that they would get alone, and leave the highest figures and a step's working lists as they would
  pub calls : (call : Call) → Alike (pool_result pool number call) (call_result own.count (run before (own_calls own)) call)
  -- a search may give the answers that it may give alone, and no other
  pub searches : (highest : List ℕ) (limit : ℕ) (answer : Outcome (Option ℕ)) → PoolSearchAnswer pool.table pool.channel number highest limit answer →
      SearchAnswer own.count (run before (own_calls own)).channel highest limit answer
  pub searches_all : (highest : List ℕ) (limit : ℕ) (answer : Outcome (Option ℕ)) →
      SearchAnswer own.count (run before (own_calls own)).channel highest limit answer →
      PoolSearchAnswer pool.table pool.channel number highest limit answer
  -- "demand 3 holds of each for its own calls", where each accepted call since the opening is lent what a loading of the sheet gives for it
  pub demand3 : Fed own.sheet (after before (own_start own)) own.since → Holds own.sheet before (own_calls own)

-- an open river
pub record Opened (pool : Pool) (number : ℕ) (own : Own) : Type 0 where
  pub from : 1 ≤ number
  pub to : number ≤ most_rivers
  pub opened : is_open (slot_of pool.table number) ≡ true
  pub segments : (slot_of pool.table number).segments ≡ own.count
  pub closes : close_finding pool.table number ≡ passes
  pub alone : (before : State) → OwnLists own.count before → AsAlone pool number own before

-- the river with this number, by its own calls
abbrev pub Shown : Pool → (number : ℕ) → Option Own → Type 0
Shown pool number none = NotOpen pool number
Shown pool number (some own) = Opened pool number own

-- the claim: after every list of calls, of every number
abbrev pub Sharing : Type 0
Sharing =
    (before : Pool) → NoneOpen before → (calls : List PoolCall) (number : ℕ) →
    Shown (run_pool before calls) number (own_since number before calls none) × OpensAlone (run_pool before calls) number

-- `LoadedLists` of an opening: what its river's accepted calls are to be lent is what it left and what loadings of its sheet leave.
pub record OpenedLists : Type 0 where
  -- what an accepted opening leaves in the fourteen lists
  pub left : (sheet : List ℕ) (r records : ℕ) (columns : Columns) (pool : Pool) (number : ℕ) (highest : List ℕ) (u : ℕ) (v : Loaded) →
      open_answer sheet r records columns pool number highest u ≡ accepted v →
      LeftFor sheet r v.segments (open_columns sheet r records columns pool number highest u)
  -- one that is accepted for one flow of the sheet is accepted for each of them, and so is the loading
  pub flows : (sheet : List ℕ) (r records : ℕ) (columns : Columns) (pool : Pool) (number : ℕ) (highest : List ℕ) (u : ℕ) (v : Loaded) →
      open_answer sheet r records columns pool number highest u ≡ accepted v → (other : ℕ) → other ≤ flow_row_count sheet →
      (open_answer sheet other records columns pool number highest u ≡ accepted v) × (load_answer sheet other records columns ≡ accepted v)
  -- so the opening for the flow in force at step n and the loading for that at n + 1 are accepted, and what they leave is the pair of the step from n
  -- to n + 1
  pub pairs : (sheet : List ℕ) (r r' records records' : ℕ) (columns columns' : Columns) (pool : Pool) (number : ℕ) (highest : List ℕ) (u : ℕ) (v v' : Loaded) →
      open_answer sheet r records columns pool number highest u ≡ accepted v → load_answer sheet r' records' columns' ≡ accepted v' → (n : ℕ) →
      (open_answer sheet (flow_in_force sheet n) records columns pool number highest u ≡ accepted v)
      × (load_answer sheet (flow_in_force sheet (suc n)) records' columns' ≡ accepted v')
      × PairAsLoaded sheet n v'.segments (open_columns sheet (flow_in_force sheet n) records columns pool number highest u).numbers
      (load_columns sheet (flow_in_force sheet (suc n)) records' columns')
