-- Beside the claims of a forecast: what meets their premises, what the claims then say of it, and what their conclusions shut out. proofs/ForecastWitnesses
-- shows it of the definitions; of the claim on a pool forecast_claim/proofs/Witnesses does.
use Rattle.std.specs.Prelude.{◌≡◌, List, [], ◌∷◌, ◌++◌, ◌*◌, T, length, replicate}
use Rattle.std.proofs.Math.Option.{none, some}
use Rattle.model.specs.Sheet.{segment_count}
use Rattle.model.specs.State.{loaded_segments, State, figures_of}
use Rattle.model.specs.Refusals.{nothing, accepted, refused}
use Rattle.model.specs.Load.{loaded, load_answer}
use Rattle.model.specs.Runs.{LoneCall, accepts, run, AllAccepted, Fed, events, Exact, no_river, ExactRun}
use Rattle.model.specs.Claim.{Near}
use Rattle.model.specs.OwnRiver.{rows_upstream}
use Rattle.model.specs.OwnRiverClaim.{OwnCalls}
use Rattle.model.specs.PoolRuns.{run_pool}
use Rattle.forecast_model.specs.Forecast.{Live, Room, Foreseen, forecast, pool_forecast}
use Rattle.forecast_model.specs.ForecastClaim.{Shows, Foretold, moves, ForecastSays, ForecastNear, PoolForecastSays}
use Rattle.model.specs.Bench.{zeros, no_state, no_work}
use Rattle.model.specs.FlowBench.{melting}
use Rattle.model.specs.OwnRiverBench.{thaw}
use Rattle.model.specs.OwnRiverWitnesses.{channel_alone}
use Rattle.model.specs.Witnesses.{melting_start, melting_calls, all_closed, pool_calls}
use Rattle.forecast_model.specs.ForecastBench.{thawing, asking, thaw_ahead}

-- ---- the premises are met, and the claims say this

-- what line 1 of `ForecastBench` hands back: above 900 first at step 2
abbrev pub at_step2 : Foreseen
at_step2 = record { found = some 2; upstream = 5000; steps = 2 }

-- the live river that the calls of demand 3 on `melting` leave with two steps done, and lists to write
unfoldable pub melting_live : Live
melting_live = record { n = 2; state = run (no_state 2) melting_calls; highest = 0 ∷ [] }

unfoldable pub melting_room : Room
melting_room = record { copies = no_state 2; highest = 0 ∷ []; sides = replicate 48 0; working = no_work 2 }

-- its gauge, which shows 1,941, is not above that within two steps: at step 4 there are 482 and 1,095
abbrev pub not_above : Foreseen
not_above = record { found = none; upstream = 0; steps = 4 }

-- an exact river that is fed the calls and then two steps of the sheet is near what the copies of this forecast hold
abbrev pub CopiesNear : (copies : State) → Type 0
CopiesNear copies =
    (q : Exact) × ExactRun melting no_river (events (no_state 2) melting_calls ++ moves melting 2 4) q × (q.n ≡ 4)
    × Near (6 * 4) (loaded_segments melting 0) (figures_of (segment_count melting) copies) q.now

pub record ForecastMet : Type 0 where
  -- a forecast that is accepted: behind no step call the gauge shows 900, behind one 1,574, and the calls are accepted
  pub found : (thaw_ahead 900 3).answer ≡ accepted at_step2
  pub says : ForecastSays →
      Shows thaw thawing.state 1 900
      × ((calls : List LoneCall) × OwnCalls (rows_upstream thaw) thaw 1 calls × (length calls ≡ 1) × AllAccepted thawing.state calls × Shows thaw (run thawing.state calls) 1 1574)
  -- one behind calls that demand 3 speaks of
  pub loads : load_answer melting 0 1 (zeros 2) ≡ accepted (loaded melting)
  pub taken : T (accepts (no_state 2) melting_start)
  pub fed : Fed melting (no_state 2) melting_calls
  pub answers : (forecast melting melting_live melting_room (asking 1 1941 2)).answer ≡ accepted not_above
  pub copies : figures_of 2 (forecast melting melting_live melting_room (asking 1 1941 2)).left.state ≡ channel_alone 482 1095
  pub says_near : ForecastNear → CopiesNear (forecast melting melting_live melting_room (asking 1 1941 2)).left.state

-- the same of river 1 of a pool, which has the same calls, and of a number that is not open
pub record PoolForecastMet : Type 0 where
  pub says : PoolForecastSays → let x = pool_forecast melting (run_pool all_closed pool_calls) 1 (0 ∷ []) melting_room (asking 1 1941 2) in
      (x.answer ≡ accepted not_above) × CopiesNear x.left.state
  pub says_closed : PoolForecastSays → (pool_forecast melting (run_pool all_closed pool_calls) 2 (0 ∷ []) melting_room (asking 1 1941 2)).answer ≡ refused 18 nothing

-- ---- the conclusions shut this out

-- what a forecast of `thawing` with limit 900 and horizon 3 may not have handed back and left
abbrev pub Wrong : Foreseen → (copies : State) → Type 0
Wrong v copies = Foretold thaw thawing.state (asking 1 900 3) v copies → ⊥

-- the right one's copies
unfoldable pub right_copies : State
right_copies = (thaw_ahead 900 3).left.state

-- none, though it is above at step 2, whether it stops there or at the horizon's end; a step too late; found where it is not above; the step before as the
-- one found; copies as the live river is; a count of 1 or a U of 7 left in them; stopped behind the horizon's end
abbrev pub ForetoldBench : Type 0
ForetoldBench =
    Wrong (record { found = none; upstream = 5000; steps = 2 }) right_copies
    × Wrong (record { found = none; upstream = 5000; steps = 4 }) (thaw_ahead 1000000000 3).left.state
    × Wrong (record { found = some 3; upstream = 5000; steps = 3 }) (thaw_ahead 1575 3).left.state
    × Wrong (record { found = some 1; upstream = 7; steps = 1 }) (thaw_ahead 899 3).left.state
    × Wrong (record { found = some 1; upstream = 5000; steps = 2 }) right_copies
    × Wrong at_step2 (record { channel = 900 ∷ 400 ∷ []; storage = 350 ∷ 310 ∷ []; sediment = 320 ∷ 305 ∷ []; upstream = 5000; steps = 2 })
    × Wrong (record { found = some 2; upstream = 5000; steps = 1 }) right_copies
    × Wrong (record { found = some 2; upstream = 7; steps = 2 }) right_copies
    × Wrong (record { found = none; upstream = 5000; steps = 5 }) right_copies
