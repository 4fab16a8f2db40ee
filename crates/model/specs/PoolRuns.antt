-- Document 02, 3: lists of calls on a pool, and a river's own calls among them.
use Rattle.std.specs.Prelude.{Bool, cond, ◌&&◌, List, [], ◌∷◌, ◌++◌, ℕ, eqb}
use Rattle.std.proofs.Math.Option.{Option, none, some}
use Rattle.model.specs.Sheet.{segment_count}
use Rattle.model.specs.State.{Columns, loaded_segments, write_segments}
use Rattle.model.specs.Refusals.{is_accepted, is_passed}
use Rattle.model.specs.Calls.{Call, start, leaves_highest}
use Rattle.model.specs.Runs.{LoneCall, alone}
use Rattle.model.specs.Pool.{Pool, slot_of, pool_result, open_answer, pool_open, open_highest, close_finding, closed_table}

-- a call names a river by its number; what it is lent beside the pool is its own, of any content
pub data PoolCall : Type 0 where
  opening : (number : ℕ) → (sheet : List ℕ) → (r records : ℕ) → Columns → (highest : List ℕ) → (u : ℕ) → PoolCall
  on_river : (number : ℕ) → Call → PoolCall
  closing : (number : ℕ) → PoolCall

-- the number
abbrev pub named : PoolCall → ℕ
named (opening number sheet r records columns highest u) = number
named (on_river number call) = number
named (closing number) = number

-- the call is accepted
unfoldable pub pool_accepts : Pool → PoolCall → Bool
pool_accepts pool (opening number sheet r records columns highest u) = is_accepted (open_answer sheet r records columns pool number highest u)
pool_accepts pool (on_river number call) = is_accepted (pool_result pool number call).answer
pool_accepts pool (closing number) = is_passed (close_finding pool.table number)

-- the pool that a call leaves
unfoldable pub after_call : Pool → PoolCall → Pool
after_call pool (opening number sheet r records columns highest u) = pool_open sheet r records columns pool number highest u
after_call pool (on_river number call) = (pool_result pool number call).left.state
after_call pool (closing number) =
    record { table = closed_table pool.table number; channel = pool.channel; storage = pool.storage; sediment = pool.sediment }

-- "each call lent what the last one left"
unfoldable pub run_pool : Pool → List PoolCall → Pool
run_pool pool [] = pool
run_pool pool (call ∷ calls) = run_pool (after_call pool call) calls

-- a river's own calls: the sheet of its latest accepted opening, the start that this made, on the lists that it left, and the accepted calls
-- since, as document 01's calls on lists that are the river's alone
pub record Own : Type 0 where
  pub sheet : List ℕ
  pub count : ℕ
  pub columns : Columns
  pub highest : List ℕ
  pub u : ℕ
  pub since : List LoneCall

-- that start
abbrev pub own_start : Own → LoneCall
own_start own = alone own.count (start own.columns own.highest own.u)

-- all of them
abbrev pub own_calls : Own → List LoneCall
own_calls own = own_start own ∷ own.since

-- with one more
abbrev pub with_call : LoneCall → Option Own → Option Own
with_call call none = none
with_call call (some own) =
    let since = own.since ++ (call ∷ []) in
    some (record { sheet = own.sheet; count = own.count; columns = own.columns; highest = own.highest; u = own.u; since = since })

-- what an accepted call that names the river makes of them; none where it is not open
abbrev pub own_after : Pool → PoolCall → Option Own → Option Own
own_after pool (opening number sheet r records columns highest u) own =
    let loaded = write_segments (loaded_segments sheet r) columns in
    some (record { sheet = sheet; count = segment_count sheet; columns = loaded; highest = highest; u = u; since = [] })
own_after pool (on_river number call) own = with_call (alone (slot_of pool.table number).segments call) own
own_after pool (closing number) own = none

-- the own calls of the river with this number after a list of calls, of all rivers, from a pool; `own` are those before
unfoldable pub own_since : (number : ℕ) → Pool → List PoolCall → (own : Option Own) → Option Own
own_since number pool [] own = own
own_since number pool (call ∷ calls) own =
    own_since number (after_call pool call) calls
    (cond (eqb (named call) number && pool_accepts pool call) (own_after pool call own) own)

-- the highest figures that an accepted call leaves its river; a report and a closing leave them as they were, which is `highest`
abbrev pub highest_left : Pool → PoolCall → (highest : List ℕ) → List ℕ
highest_left pool (opening number sheet r records columns lent u) highest = open_highest sheet r records columns pool number lent u
highest_left pool (on_river number call) highest = cond (leaves_highest call) (pool_result pool number call).left.highest highest
highest_left pool (closing number) highest = highest

-- those of the river with this number after a list of calls, of all rivers, from a pool: as its latest accepted opening, start or step left them
unfoldable pub highest_since : (number : ℕ) → Pool → List PoolCall → (highest : List ℕ) → List ℕ
highest_since number pool [] highest = highest
highest_since number pool (call ∷ calls) highest =
    highest_since number (after_call pool call) calls
    (cond (eqb (named call) number && pool_accepts pool call) (highest_left pool call highest) highest)
