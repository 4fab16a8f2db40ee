-- The sheet's own river, proved: no step up to M is refused, the one behind them is refused 15, and demand 3 holds of the calls.
use mathlib.Core.Path.{◌≡◌, refl, ap, ◌∙◌}
use mathlib.Core.List.{List, [], ◌∷◌}
use Prim.Native.Nat.{ℕ, zero, suc, ◌+◌, ◌≤◌}
use native.Mathlib.Omega.{arith}
use lib.ListN.{length}
use Rattle.model.specs.Sheet.{steps_m}
use Rattle.model.specs.State.{Columns, State, write_figures}
use Rattle.model.specs.Refusals.{passes, first}
use Rattle.model.specs.Load.{river_tests, Loaded, loaded}
use Rattle.model.specs.Calls.{start}
use Rattle.model.specs.Runs.{LoneCall, alone, run, after, Fed}
use Rattle.model.specs.OwnRiver.{own_step, ahead, own_state}
use Rattle.model.specs.OwnRiverClaim.{UpstreamInRange, OwnCalls, OwnRun, Done, OwnRiverSteps, OwnRiverOnwards, RowsUpstream}
use Rattle.loading_laws.proofs.Loaded.{LoadPassed, load-passed}
use Rattle.own_river_laws.proofs.Ahead.{ahead-counts, ahead-alike}
use Rattle.own_river_laws.proofs.Sheets.{rows-range, rows-found}
use Rattle.own_river_laws.proofs.Standing.{Standing, stands-tested, step-stands}
use Rattle.distance_claim.proofs.Claim.{demand3}
use Rattle.own_river_claim.proofs.Calls.{start-counts, start-stands, start-alike, step-refused, step-taken, step-leaves}

module _ (sheet : List ℕ) (front : first (river_tests sheet) ≡ passes) (u : ℕ → ℕ) (from : ℕ) (range : UpstreamInRange u from (steps_m sheet)) where
  -- it goes from one state that it may stand in to the next
  pub ahead-stands : (state : State) (k : ℕ) → Standing sheet state → from ≤ suc state.steps → state.steps + k ≤ steps_m sheet → Standing sheet (ahead u sheet state k)
  unfolding ahead own_step write_figures
  ahead-stands state zero stands b h = stands
  ahead-stands state (suc k) stands b h =
      let u' = u (suc state.steps) in
      ahead-stands (own_step sheet u' state) k (step-stands sheet front state stands u' (range (suc state.steps) b (omega arith))) (omega arith) (omega arith)

  -- from any such state, up to M
  pub own-run : (state : State) (calls : List LoneCall) → Standing sheet state → OwnCalls u sheet state.steps calls → from ≤ suc state.steps →
      state.steps + length calls ≤ steps_m sheet → OwnRun u sheet state calls
  unfolding run ahead own_step write_figures
  own-run state [] stands OwnCalls.none b h = record { accepted = tt; leaves = refl; fed = Fed.none }
  own-run state (call ∷ calls) stands own b h = one-more state call own stands b h (λ next. own-run next calls)
    where
      one-more : (state : State) (call : LoneCall) → OwnCalls u sheet state.steps (call ∷ calls) → Standing sheet state → from ≤ suc state.steps →
          state.steps + length (call ∷ calls) ≤ steps_m sheet →
          ((next : State) → Standing sheet next → OwnCalls u sheet next.steps calls → from ≤ suc next.steps →
          next.steps + length calls ≤ steps_m sheet → OwnRun u sheet next calls) →
          OwnRun u sheet state (call ∷ calls)
      one-more state call (OwnCalls.more {old} {new} {highest} {working} l rest) stands b h onwards =
          let u' = u (suc state.steps) in
          let within = range (suc state.steps) b (omega arith) in
          let e = step-leaves sheet front state stands old new highest working l u' within (omega arith) in
          let x = onwards (own_step sheet u' state) (step-stands sheet front state stands u' within) rest (omega arith) (omega arith) in
          record {
            accepted = (step-taken sheet front state stands old new highest working l u' within (omega arith), rw e x.accepted);
            leaves = rw e x.leaves;
            fed = Fed.more {state = state} {call = call} {calls = calls} (λ a. l.pair) (rw e x.fed);
          }

  -- and no further
  own-end : (state : State) (k : ℕ) → Standing sheet state → from ≤ suc state.steps → state.steps + k ≡ steps_m sheet → Done sheet (ahead u sheet state k)
  own-end state k stands b e old new highest working u' l within =
      step-refused sheet front (ahead u sheet state k) (ahead-stands state k stands b (omega arith)) old new highest working l u' within
      (ahead-counts u sheet state k ∙ e)

-- M is that of an accepted loading
steps-told : {sheet : List ℕ} {r records : ℕ} {columns : Columns} {v : Loaded} → LoadPassed sheet r records columns v → steps_m sheet ≡ v.steps
unfolding loaded
steps-told passed = ap (λ (x : Loaded). x.steps) passed.values

pub own-river-steps : OwnRiverSteps
unfolding run own_state
own-river-steps sheet r records columns v e u range before n lent highest lists taken calls own h =
    let passed = load-passed e in
    let front = passed.front in
    let steps = steps-told passed in
    let within : UpstreamInRange u 0 (steps_m sheet) = rw steps range in
    let state = after before (alone n (start lent highest (u 0))) in
    let count : state.steps ≡ 0 = start-counts sheet n lent before highest (u 0) lists taken in
    let stands = start-stands sheet n lent before highest (u 0) lists taken front in
    let x = own-run sheet front u 0 within state calls stands (rw count own) (omega arith) (omega (arith, count, steps, h)) in (
      x,
      rw x.leaves (ahead-alike u sheet _ _ (length calls) (start-alike sheet u n lent before highest lists taken)),
      demand3 sheet r records columns v e before n lent highest (u 0) calls taken (Fed.more (λ a. lists) x.fed),
      λ q. rw x.leaves (own-end sheet front u 0 within state (length calls) stands (omega arith) (omega (arith, count, steps))),
    )

pub own-river-onwards : OwnRiverOnwards
own-river-onwards sheet r records columns v e state long figures held u range calls own h =
    let passed = load-passed e in
    let steps = steps-told passed in
    let from = suc state.steps in
    let within : UpstreamInRange u from (steps_m sheet) = rw steps range in
    let stands = stands-tested sheet state long figures held in
    let x = own-run sheet passed.front u from within state calls stands own (omega arith) (omega (arith, steps, h)) in
    (x, λ q. rw x.leaves (own-end sheet passed.front u from within state (length calls) stands (omega arith) (omega (arith, steps, q))))

pub rows-upstream : RowsUpstream
rows-upstream sheet r records columns v e j =
    let passed = load-passed e in
    (rw (← (steps-told passed)) (rows-found sheet passed.front j), rows-range sheet passed.front j)
