-- Demand 3 of the sheet's own river: that of a start and steps that go it, which feed the exact river what the definitions say.
use mathlib.Core.Path.{◌≡◌, refl, sym, ap, ◌∙◌}
use mathlib.Core.List.{List, [], ◌∷◌}
use Prim.Native.Nat.{ℕ, suc, ◌≤◌}
use native.Mathlib.Nat.{zero-add}
use native.Mathlib.Omega.{arith}
use lib.Dec.{T}
use lib.Ieee.Bits.{is_true}
use lib.ListN.{length}
use Rattle.lists.specs.Lists.{tab}
use Rattle.model.specs.Sheet.{Reach}
use Rattle.model.specs.State.{Columns, State}
use Rattle.model.specs.Refusals.{accepted}
use Rattle.model.specs.Load.{Loaded, load_answer}
use Rattle.model.specs.Calls.{start}
use Rattle.model.specs.Runs.{LoneCall, alone, accepts, after, AllAccepted, AsLoaded, started, moved, events, no_river, ExactRun}
use Rattle.model.specs.OwnRiver.{own_start, own_state, own_events}
use Rattle.model.specs.OwnRiverClaim.{UpstreamInRange, OwnCalls, OwnHolds, OwnRiverNear}
use Rattle.own_river_laws.proofs.Ahead.{ahead-counts}
use Rattle.own_river_claim.proofs.Claim.{own-river-steps}
use Rattle.own_river_claim.proofs.Exist.{own-calls-exist}

-- the events of accepted steps of the river
pub steps-events : (u : ℕ → ℕ) (sheet : List ℕ) (state : State) {n : ℕ} (calls : List LoneCall) → OwnCalls u sheet n calls → AllAccepted state calls →
    events state calls ≡ tab (suc n) (length calls) (λ j. moved (u j))
unfolding events
steps-events u sheet state [] OwnCalls.none taken = refl
steps-events u sheet state (call ∷ calls) (OwnCalls.more {n} l rest) taken =
    let a = is_true (accepts state call) taken.0 in
    rw a (ap (λ es. moved (u (suc n)) ∷ es) (steps-events u sheet (after state call) calls rest taken.1))

-- a start and these

module _ (sheet : List ℕ) (r : ℕ) (records : List Reach) (columns : Columns) (v : Loaded) (e : load_answer sheet r (length records) columns ≡ accepted v)
    (u : ℕ → ℕ) (range : UpstreamInRange u 0 v.steps) (before : State) (n : ℕ) (lent : Columns) (highest : List ℕ) (lists : AsLoaded sheet n lent)
    (taken : T (accepts before (alone n (start lent highest (u 0))))) (calls : List LoneCall) (own : OwnCalls u sheet 0 calls)
    (few : length calls ≤ v.steps) where
  run_holds : OwnHolds u sheet (length calls)
  unfolding events own_events own_state own_start
  run_holds =
      let x = own-river-steps sheet r records columns v e u range before n lent highest lists taken calls own few in
      let first = alone n (start lent highest (u 0)) in
      let fed : events before (first ∷ calls) ≡ own_events u (length calls) =
      rw (is_true (accepts before first) taken) (ap (λ es. started (u 0) ∷ es) (steps-events u sheet (after before first) calls own x.0.accepted)) in
      let steps : (own_state u sheet (length calls)).steps ≡ length calls = ahead-counts u sheet (own_start u sheet) (length calls) ∙ zero-add (length calls) in
      let holds = x.2 in
      record {
        exists = rw fed at holds.exists;
        unique = rw fed at holds.unique;
        counted = λ q ran. (steps, sym (holds.counted q (rw fed ran)) ∙ x.1.steps ∙ steps);
        near = λ q ran.
            let ran' : ExactRun sheet no_river (events before (first ∷ calls)) q = rw fed ran in
            let count : q.n ≡ length calls = sym (holds.counted q ran') ∙ x.1.steps ∙ steps in
            rw (count, x.1.figures) at (holds.near q ran');
      }

pub own-river-near : OwnRiverNear
own-river-near sheet r records columns v e u range k h =
    let x = own-calls-exist sheet r records columns v e u (range 0 (omega arith) (omega arith)) k in
    let many = x.5.3 in
    rw many at (run_holds sheet r records columns v e u range x.0 x.1 x.2 x.3 x.5.0 x.5.1 x.4 x.5.2 (omega (arith, many, h)))
