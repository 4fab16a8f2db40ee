-- A call's outcome where its tests pass, and where one fails.
use mathlib.Core.List.{List, [], ◌∷◌, ◌++◌}
use mathlib.Core.Path.{◌≡◌, refl, ap}
use Prim.Native.Nat.{ℕ, zero, suc, ◌-◌}
use native.Mathlib.Omega.{arith}
use lib.ListN.{get_or, set}
use Rattle.lists.proofs.Stretch.{splice-self}
use Rattle.model.specs.State.{Columns, State}
use Rattle.model.specs.Refusals.{Place, accepted, refused, Finding, passes, fails, first, answer, left_after}
use Rattle.model.specs.Calls.{Call, start, step, report, call_tests, call_values, call_left, call_lent, call_result}
use Rattle.model.specs.Pool.{vacant, slot_of, Pool, shared_lists, state_of, with_state, pool_tests, pool_result}

-- what a call is lent beside the state does not rest on the state
pub lent-beside : {S T : Type 0} (x : S) (y : T) (call : Call) →
    call_lent x call ≡ record { state = x; highest = (call_lent y call).highest; working = (call_lent y call).working }
lent-beside x y (start columns highest u) = refl
lent-beside x y (step old new highest working u' M) = refl
lent-beside x y (report columns number) = refl

pub lent-state : {S : Type 0} (state : S) (call : Call) → (call_lent state call).state ≡ state
lent-state state call = ap (λ x. x.state) (lent-beside state state call)

module _ (n : ℕ) (state : State) (call : Call) where
  pub result-passes : first (call_tests n state call) ≡ passes → call_result n state call ≡ record { answer = accepted (call_values state call); left = call_left n state call }
  unfolding call_result
  result-passes e = rw e

  pub result-fails : {k : ℕ} {place : Place} → first (call_tests n state call) ≡ fails k place → call_result n state call ≡ record { answer = refused k place; left = call_lent state call }
  unfolding call_result
  result-fails e = rw e

  -- a refused call leaves the state as it was
  pub refused-still : {k : ℕ} {place : Place} → (call_result n state call).answer ≡ refused k place → (call_result n state call).left.state ≡ state
  unfolding call_result
  refused-still {k} {place} = go (first (call_tests n state call))
    where
      go : (t : Finding) → answer t (call_values state call) ≡ refused k place →
          (left_after (answer t (call_values state call)) (call_lent state call) (call_left n state call)).state ≡ state
      go passes e = let z : ◌≡◌ {A = ℕ} 0 1 = cc in absurd (omega arith)
      go (fails number at) e = lent-state state call

-- a list with the entry that it has
set_self : {A : Type 0} (list : List A) (i : ℕ) (d : A) → set list i (get_or list i d) ≡ list
set_self [] i d = refl
set_self (x ∷ xs) zero d = refl
set_self (x ∷ xs) (suc i) d = ap (λ ys. x ∷ ys) (set_self xs i d)

-- a river's state put in its place again
put_back : (pool : Pool) (number : ℕ) → with_state pool number (state_of pool number) ≡ pool
put_back pool number =
    let x = slot_of pool.table number in
    rw (
      set_self pool.table (number - 1) vacant,
      splice-self x.first x.segments pool.channel,
      splice-self x.first x.segments pool.storage,
      splice-self x.first x.segments pool.sediment,
    )

-- a report leaves the pool as it was
pub report-still : (pool : Pool) (number : ℕ) (columns : Columns) (segment : ℕ) → (pool_result pool number (report columns segment)).left.state ≡ pool
unfolding pool_result
report-still pool number columns segment =
    go (first (pool_tests pool.table (shared_lists pool) number ++ call_tests (slot_of pool.table number).segments (state_of pool number) (report columns segment)))
  where
    go : (t : Finding) →
        (left_after (answer t (call_values (state_of pool number) (report columns segment))) (call_lent pool (report columns segment))
        (record { state = with_state pool number (state_of pool number); highest = []; working = (call_lent pool (report columns segment)).working })
        ).state ≡ pool
    go passes = put_back pool number
    go (fails k place) = refl
