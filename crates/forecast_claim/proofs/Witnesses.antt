-- The claim on a pool can be met: by river 1 of the calls that `Sharing` speaks of, and by a number that is not open.
use mathlib.Core.Path.{refl, ap, subst, ◌∙◌}
use mathlib.Core.List.{[], ◌∷◌, ◌++◌}
use Rattle.model.specs.State.{State}
use Rattle.model.specs.Runs.{events}
use Rattle.model.specs.PoolRuns.{run_pool}
use Rattle.model.specs.Bench.{no_state}
use Rattle.model.specs.FlowBench.{melting}
use Rattle.model.specs.Witnesses.{all_closed, pool_calls, river1_with, river1, melting_for, melting_start, melting_calls}
use Rattle.model.proofs.Witnesses.{melting-fed, all_closed_lem, melting-state}
use Rattle.forecast_model.specs.Forecast.{pool_forecast}
use Rattle.forecast_model.specs.ForecastClaim.{moves, CopiesHold}
use Rattle.forecast_model.specs.ForecastBench.{asking}
use Rattle.forecast_model.specs.ForecastWitnesses.{melting_live, melting_room, not_above, PoolForecastMet}
use Rattle.forecast_model.proofs.ForecastWitnesses.{forecast-met, melting-front, four-steps, near-copies}
use Rattle.pool_laws.proofs.Witnesses.{pool-calls, later}

pub pool-forecast-met : PoolForecastMet
unfolding river1 river1_with melting_calls melting_start no_state melting_for melting_live
pool-forecast-met = record {
  says = λ claim.
      let of = rw pool-calls.1 at (claim all_closed all_closed_lem pool_calls 1) in
      let x = of (no_state 2) (record { channel = refl; storage = refl; sediment = refl }) in
      let same = x.0 melting (0 ∷ []) melting_room (asking 1 1941 2) in
      let copies = (pool_forecast melting (run_pool all_closed pool_calls) 1 (0 ∷ []) melting_room (asking 1 1941 2)).left.state in
      let answer = ap (λ r. r.answer) same ∙ forecast-met.answers in
      let holds = (x.1 (later melting-fed) (0 ∷ []) melting_room (asking 1 1941 2) not_above answer).1 in (
        answer,
        near-copies copies (subst (λ k. CopiesHold melting (events (no_state 2) melting_calls ++ moves melting k 4) copies) (ap (λ (s : State). s.steps) melting-state) holds)
            (ap (λ r. r.left.state.steps) same ∙ four-steps),
      );
  says_closed = λ claim.
      let closed = rw pool-calls.2 at (claim all_closed all_closed_lem pool_calls 2) in
      closed melting (0 ∷ []) melting_room (asking 1 1941 2) melting-front;
}
