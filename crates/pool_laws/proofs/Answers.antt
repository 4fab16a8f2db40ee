-- The outcome of a call on an open river: that of document 01's call on its stretch.
use mathlib.Core.Path.{◌≡◌, refl, sym, ap, ◌∙◌}
use mathlib.Core.Bool.{false}
use mathlib.Core.List.{List, [], ◌∷◌, ◌++◌}
use mathlib.Core.Option.{Option}
use Prim.Native.Nat.{ℕ}
use Rattle.lists.proofs.Shorter.{none-shorter}
use Rattle.model.specs.Ranges.{most_segments}
use Rattle.model.specs.State.{State}
use Rattle.model.specs.Refusals.{Place, Outcome, accepted, refused, Finding, passes, fails, first, answer, left_after}
use Rattle.model.specs.Calls.{Left, Call, call_tests, call_values, call_left, call_lent, call_result}
use Rattle.model.specs.Search.{search_tests, Searches, SearchAnswer}
use Rattle.model.specs.Pool.{Pool, shared_lists, slot_of, state_of, with_state, number_fault, shared_fault, pool_tests, pool_result, pool_search_tests, PoolSearchAnswer}
use Rattle.model.specs.PoolClaim.{Alike}
use Rattle.model.proofs.Refusals.{first_rest, first-front, all_pass, test-clear}
use Rattle.model.proofs.Calls.{lent-beside}
use Rattle.pool_laws.proofs.Pools.{shared_long}

-- a pool's own tests
abbrev pub front_tests : Pool → (number : ℕ) → List Finding
front_tests pool number = pool_tests pool.table (shared_lists pool) number

-- they find nothing
pub tests-pass : (pool : Pool) (number : ℕ) → number_fault pool.table number ≡ false → shared_fault (shared_lists pool) ≡ false → first (front_tests pool number) ≡ passes
unfolding pool_tests
tests-pass pool number fault short = rw (fault, short)

-- and then neither 18 nor 13 has a ground
pub tests-clear : (pool : Pool) (number : ℕ) → first (front_tests pool number) ≡ passes →
    (number_fault pool.table number ≡ false) × (shared_fault (shared_lists pool) ≡ false)
unfolding pool_tests
tests-clear pool number e =
    let both = all_pass (front_tests pool number) e in (test-clear 18 _ both.0, test-clear 13 _ both.1.0)

-- searches whose tests find the same may give the same answers
same_tests : {tests others : List Finding} {n : ℕ} {channel highest : List ℕ} {limit : ℕ} {found : Outcome (Option ℕ)} → first tests ≡ first others →
    Searches tests n channel highest limit found → Searches others n channel highest limit found
same_tests same s = record { found = s.found; finds = λ e. s.finds (same ∙ e); is = s.is ∙ ap (λ t. answer t s.found) same }

module _ (pool : Pool) (number : ℕ) where
  -- the river's segment count and state
  abbrev count : ℕ
  count = (slot_of pool.table number).segments

  abbrev here : State
  here = state_of pool number

  module _ (call : Call) where
    -- what an accepted call leaves
    abbrev pub pool_left : Left Pool
    pool_left = let left = call_left count here call in record { state = with_state pool number left.state; highest = left.highest; working = left.working }

    -- where the pool's own tests pass, the river's call answers what it answers alone, and leaves the highest figures and the working lists alike
    pub alike : first (front_tests pool number) ≡ passes → Alike (pool_result pool number call) (call_result count here call)
    unfolding pool_result call_result
    alike pass =
        let rest = first_rest (front_tests pool number) (call_tests count here call) pass in
        let found = first (call_tests count here call) in
        record { answer = rw rest; highest = rw rest (go-highest found); working = rw rest (go-working found) }
      where
        go-highest : (t : Finding) → (left_after (answer t (call_values here call)) (call_lent pool call) pool_left).highest
            ≡ (left_after (answer t (call_values here call)) (call_lent here call) (call_left count here call)).highest
        go-highest passes = refl
        go-highest (fails k place) = ap (λ x. x.highest) (lent-beside pool here call)

        go-working : (t : Finding) → (left_after (answer t (call_values here call)) (call_lent pool call) pool_left).working
            ≡ (left_after (answer t (call_values here call)) (call_lent here call) (call_left count here call)).working
        go-working passes = refl
        go-working (fails k place) = ap (λ x. x.working) (lent-beside pool here call)

    -- where all tests pass, and where one of them fails
    pub pool-passes : first (front_tests pool number ++ call_tests count here call) ≡ passes →
        pool_result pool number call ≡ record { answer = accepted (call_values here call); left = pool_left }
    unfolding pool_result
    pool-passes e = rw e

    pub pool-fails : {k : ℕ} {place : Place} → first (front_tests pool number ++ call_tests count here call) ≡ fails k place →
        pool_result pool number call ≡ record { answer = refused k place; left = call_lent pool call }
    unfolding pool_result
    pool-fails e = rw e

    -- one of the pool's own
    pub refused-in-front : {k : ℕ} {place : Place} → first (front_tests pool number) ≡ fails k place →
        pool_result pool number call ≡ record { answer = refused k place; left = call_lent pool call }
    refused-in-front e = pool-fails (first-front (front_tests pool number) (call_tests count here call) e)

  module _ (pass : first (front_tests pool number) ≡ passes) where
    -- a search finds no fault that it would not find on the stretch
    search-tests : (highest : List ℕ) →
        first (pool_search_tests pool.table pool.channel number highest) ≡ first (search_tests count here.channel highest)
    unfolding pool_search_tests pool_tests shared_fault
    search-tests highest =
        let clear = tests-clear pool number pass in
        rw (clear.0, none-shorter most_segments (pool.channel ∷ []) ((shared_long pool clear.1).channel, tt))

    -- so it may give the answers that it may give there
    pub search-alone : (highest : List ℕ) (limit : ℕ) (found : Outcome (Option ℕ)) → PoolSearchAnswer pool.table pool.channel number highest limit found →
        SearchAnswer count here.channel highest limit found
    search-alone highest limit found s = same_tests (search-tests highest) s

    -- and no other
    pub search-on-pool : (highest : List ℕ) (limit : ℕ) (found : Outcome (Option ℕ)) →
        SearchAnswer count here.channel highest limit found → PoolSearchAnswer pool.table pool.channel number highest limit found
    search-on-pool highest limit found s = same_tests (sym (search-tests highest)) s
