-- A search on a pool after every list of calls, proved: a river's own calls leave its highest figures as they would alone.
use mathlib.Core.Path.{◌≡◌, refl, sym, subst, ◌∙◌}
use mathlib.Core.Bool.{Bool, true, false, cond, ◌&&◌, true≢false}
use mathlib.Core.List.{List, [], ◌∷◌, ◌++◌}
use mathlib.Core.Option.{Option, none, some}
use Prim.Native.Nat.{ℕ}
use borrow.Author.Tests.{eqb-true}
use lib.Dec.{eqb}
use lib.ListN.{replicate, length-replicate}
use Rattle.model.specs.Sheet.{segment_count}
use Rattle.model.specs.State.{Columns, State, loaded_segments, write_segments}
use Rattle.model.specs.Refusals.{passes, first}
use Rattle.model.specs.Load.{loaded}
use Rattle.model.specs.Calls.{start, leaves_highest}
use Rattle.model.specs.Runs.{LoneCall, alone, accepts, after, run, OwnLists, HighestFigures, leaves, left_since}
use Rattle.model.specs.Search.{Tells}
use Rattle.model.specs.Pool.{slot_of, Pool, state_of, pool_result, open_tests, open_answer, open_highest}
use Rattle.model.specs.PoolRuns.{PoolCall, opening, on_river, closing, named, pool_accepts, after_call, run_pool, Own, own_calls, own_after, own_since, highest_left, highest_since}
use Rattle.model.specs.PoolClaim.{Shown}
use Rattle.model.specs.SearchClaim.{PoolSearchTold}
use Rattle.model.proofs.Refusals.{accepted-passes}
use Rattle.pool_laws.proofs.Openings.{opening-passed}
use Rattle.pool_claim.proofs.Opening.{start_left_lem}
use Rattle.pool_claim.proofs.Follows.{shown}
use Rattle.pool_claim.proofs.Claim.{Going, none_going, call-going, sharing}
use Rattle.search_claim.proofs.Claim.{search-told}

-- ---- what is left after one call more

-- a list of calls and then one more
left-last : (before : State) (calls : List LoneCall) (call : LoneCall) (left : Option HighestFigures) →
    left_since before (calls ++ (call ∷ [])) left
    ≡ cond (accepts (run before calls) call) (leaves (run before calls) call (left_since before calls left)) (left_since before calls left)
unfolding left_since run
left-last before [] call left = refl
left-last before (c ∷ calls) call left = left-last (after before c) calls call _

-- an accepted call that leaves these, or none: those from before are there then
new-or-old : (b : Bool) (count : ℕ) (new old : List ℕ) (before : Option HighestFigures) → before ≡ some (record { count = count; highest = old }) →
    cond b (some (record { count = count; highest = new })) before ≡ some (record { count = count; highest = cond b new old })
new-or-old true count new old before e = refl
new-or-old false count new old before e = e

-- ---- a river's own calls, made alone, leave these highest figures

abbrev Leaves : Option Own → (highest : List ℕ) → Type 0
Leaves none highest = Unit {0}
Leaves (some own) highest =
    (before : State) → OwnLists own.count before → left_since before (own_calls own) none ≡ some (record { count = own.count; highest = highest })

-- an accepted opening leaves those of the start that its river begins with
open-leaves : (pool : Pool) (number : ℕ) (sheet : List ℕ) (r records : ℕ) (columns : Columns) (highest : List ℕ) (u : ℕ) →
    first (open_tests sheet r records columns pool number highest u) ≡ passes →
    (before : State) → OwnLists (segment_count sheet) before →
    left_since before (alone (segment_count sheet) (start (write_segments (loaded_segments sheet r) columns) highest u) ∷ []) none
    ≡ some (record { count = segment_count sheet; highest = open_highest sheet r records columns pool number highest u })
unfolding left_since accepts open_highest open_answer
open-leaves pool number sheet r records columns highest u e before lists =
    let p = opening-passed pool number sheet r records columns highest u e in
    rw (e, start_left_lem pool number sheet r records columns highest u p before lists)

-- an accepted call of the river leaves those that it would leave alone
call-leaves : (pool : Pool) (call : PoolCall) (own : Option Own) (highest : List ℕ) → Shown pool (named call) own → pool_accepts pool call ≡ true → Leaves own highest →
    Leaves (own_after pool call own) (highest_left pool call highest)
unfolding pool_accepts accepts open_answer
call-leaves pool (opening number sheet r records columns lent u) own highest x e l =
    open-leaves pool number sheet r records columns lent u (accepted-passes (open_tests sheet r records columns pool number lent u) (loaded sheet) (rw e tt))
call-leaves pool (on_river number call) none highest x e l = tt
call-leaves pool (on_river number call) (some own) highest x e l = λ before lists.
    let alike = (x.alone before lists).calls call in
    left-last before (own_calls own) (alone (slot_of pool.table number).segments call) none
    ∙ rw (x.segments, ← alike.answer, e, ← alike.highest)
    (new-or-old (leaves_highest call) own.count (pool_result pool number call).left.highest highest (left_since before (own_calls own) none) (l before lists))
call-leaves pool (closing number) own highest x e l = tt

-- a list of calls, of all rivers: those of the others and refused ones do not count
run-leaves : (pool : Pool) (calls : List PoolCall) (number : ℕ) (own : Option Own) (highest : List ℕ) → Going pool number own → Leaves own highest →
    Leaves (own_since number pool calls own) (highest_since number pool calls highest)
unfolding own_since highest_since
run-leaves pool [] number own highest g l = l
run-leaves pool (call ∷ calls) number own highest g l =
    run-leaves (after_call pool call) calls number _ _ (call-going pool call number own g) (next (eqb (named call) number) (pool_accepts pool call) refl refl)
  where
    next : (t a : Bool) → eqb (named call) number ≡ t → pool_accepts pool call ≡ a →
        Leaves (cond (t && a) (own_after pool call own) own) (cond (t && a) (highest_left pool call highest) highest)
    next true true e q =
        call-leaves pool call own highest (subst (λ m. Shown pool m own) (sym (eqb-true (named call) number e)) (shown pool number g.sound own g.follows)) q l
    next true false e q = l
    next false a e q = l

-- ---- the claim

-- a state of n segments
abbrev zero_state : (n : ℕ) → State
zero_state n = record { channel = replicate n 0; storage = replicate n 0; sediment = replicate n 0; upstream = 0; steps = 0 }

zero-lists : (n : ℕ) → OwnLists n (zero_state n)
zero-lists n = record { channel = length-replicate n 0; storage = length-replicate n 0; sediment = length-replicate n 0 }

-- an open river and its own calls, made alone: the search tells of one what it tells of the other
pub pool-search-told : PoolSearchTold
pool-search-told before none_open calls number low high opened limit answer s =
    go (own_since number before calls none) (sharing before none_open calls number).0
    (run-leaves before calls number none [] (none_going before number none_open) tt)
  where
    pool : Pool
    pool = run_pool before calls

    highest : List ℕ
    highest = highest_since number before calls []

    go : (own : Option Own) → Shown pool number own → Leaves own highest → Tells (slot_of pool.table number).segments (state_of pool number).channel limit answer
    go none x l = absurd (true≢false (sym opened ∙ x.closed low high))
    go (some own) x l =
        let n = own.count in
        let lists = zero-lists n in
        let alone = x.alone (zero_state n) lists in
        let told = search-told (zero_state n) (own_calls own) _ (l (zero_state n) lists) limit answer (alone.searches highest limit answer s) in
        subst (λ m. Tells m (state_of pool number).channel limit answer) (sym x.segments)
        (subst (λ (state : State). Tells n state.channel limit answer) (sym alone.figures) told)
