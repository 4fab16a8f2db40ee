-- Demand 3 of the copies: that of the calls before, and as many step calls of the sheet's own river behind them.
use mathlib.Core.Path.{◌≡◌, refl, ap, ◌∙◌}
use mathlib.Core.List.{List, [], ◌∷◌, ◌++◌}
use Prim.Native.Nat.{ℕ, suc, ◌-◌}
use native.Mathlib.Omega.{arith}
use lib.ListN.{length}
use Rattle.lists.specs.Lists.{tab}
use Rattle.model.specs.Sheet.{segment_count}
use Rattle.model.specs.State.{State}
use Rattle.model.specs.Refusals.{accepted}
use Rattle.model.specs.Calls.{start}
use Rattle.model.specs.Runs.{LoneCall, alone, accepts, after, run, Fed, Event, moved, event, events, Exact, no_river, ExactRun}
use Rattle.model.specs.Claim.{Holds}
use Rattle.model.specs.OwnRiver.{rows_upstream, Alike}
use Rattle.forecast_model.specs.Forecast.{Question, Live, Room, Foreseen, forecast}
use Rattle.forecast_model.specs.ForecastClaim.{moves, CopiesHold, ForecastNear}
use Rattle.distance_claim.proofs.Claim.{demand3}
use Rattle.own_river_claim.proofs.Near.{steps-events}
use Rattle.forecast_claim.proofs.Claim.{forecast-says}

-- ---- lists of calls behind one another

run-both : (state : State) (xs ys : List LoneCall) → run state (xs ++ ys) ≡ run (run state xs) ys
unfolding run
run-both state [] ys = refl
run-both state (x ∷ xs) ys = run-both (after state x) xs ys

events-both : (state : State) (xs ys : List LoneCall) → events state (xs ++ ys) ≡ events state xs ++ events (run state xs) ys
unfolding run events
events-both state [] ys = refl
events-both state (x ∷ xs) ys = ap (λ (es : List Event). event (accepts state x) x ∷ es) (events-both (after state x) xs ys)

pub fed-both : (sheet : List ℕ) (state : State) (xs ys : List LoneCall) → Fed sheet state xs → Fed sheet (run state xs) ys → Fed sheet state (xs ++ ys)
unfolding run
fed-both sheet state [] ys Fed.none q = q
fed-both sheet state (x ∷ xs) ys (Fed.more l p) q = Fed.more {state = state} {call = x} {calls = xs ++ ys} l (fed-both sheet (after state x) xs ys p q)

-- ---- the claim

-- what demand 3 says of calls holds of a state that is alike to the one that they leave
holds-alike : (sheet : List ℕ) (before : State) (calls : List LoneCall) (fed : List Event) (copies : State) → events before calls ≡ fed → Holds sheet before calls →
    Alike (segment_count sheet) copies (run before calls) → CopiesHold sheet fed copies
holds-alike sheet before calls fed copies e holds alike =
    let count : (q : Exact) → ExactRun sheet no_river fed q → copies.steps ≡ q.n = λ q ran. alike.steps ∙ holds.counted q (rw e ran) in
    record {
      exists = rw e at holds.exists;
      unique = rw e at holds.unique;
      counted = count;
      near = λ q ran. rw alike.figures (rw (← (count q ran)) at (holds.near q (rw e ran)));
    }

-- where demand 3 holds of these calls and any that are fed behind them, it holds of the copies of a forecast
pub near-calls : (sheet : List ℕ) (before : State) (calls : List LoneCall) → ((more : List LoneCall) → Fed sheet (run before calls) more → Holds sheet before (calls ++ more)) →
    (m : ℕ) (highest : List ℕ) (room : Room) (asked : Question) (w : Foreseen) →
    let x = forecast sheet (record { n = m; state = run before calls; highest = highest }) room asked in
    x.answer ≡ accepted w → CopiesHold sheet (events before calls ++ moves sheet (run before calls).steps w.steps) x.left.state
near-calls sheet before calls holds m highest room asked w e =
    let state = run before calls in
    let live : Live = record { n = m; state = state; highest = highest } in
    let told = forecast-says sheet live room asked w e in
    let x = told.exist (w.steps - state.steps) in
    let more = x.0 in
    let own = x.1 in
    let long : length more ≡ w.steps - state.steps = x.2 in
    let ran = told.runs more own (omega (arith, long, told.from, told.to)) in
    let fed : events before (calls ++ more) ≡ events before calls ++ moves sheet state.steps w.steps =
    events-both before calls more
    ∙ ap (λ (es : List Event). events before calls ++ es)
    (steps-events (rows_upstream sheet) sheet state more own ran.accepted ∙ ap (λ k. tab (suc state.steps) k (λ j. moved (rows_upstream sheet j))) long) in
    let alike = (told.stops more own (omega (arith, long, told.from))).3 in
    holds-alike sheet before (calls ++ more) (events before calls ++ moves sheet state.steps w.steps) (forecast sheet live room asked).left.state fed (holds more ran.fed) (rw (run-both before calls more) alike)

pub forecast-near : ForecastNear
forecast-near sheet r records columns v e before n lent figures u calls taken fed m highest room asked w a =
    near-calls sheet before (alone n (start lent figures u) ∷ calls)
    (λ more f. demand3 sheet r records columns v e before n lent figures u (calls ++ more) taken (fed-both sheet before (alone n (start lent figures u) ∷ calls) more fed f))
    m highest room asked w a
