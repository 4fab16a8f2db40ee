-- A forecast on a pool after every list of calls: that of the river's own calls, made alone.
use mathlib.Core.Path.{◌≡◌, refl, sym, ap, ◌∙◌}
use mathlib.Core.Bool.{false}
use mathlib.Core.List.{List, [], ◌∷◌, ◌++◌}
use mathlib.Core.Option.{Option, none, some}
use Prim.Native.Nat.{ℕ, ◌≤◌}
use Rattle.model.specs.Ranges.{most_rivers}
use Rattle.model.specs.State.{State}
use Rattle.model.specs.Refusals.{accepted, Finding, passes, fails, first}
use Rattle.model.specs.Load.{river_tests, loaded}
use Rattle.model.specs.Runs.{run, Fed}
use Rattle.model.specs.Pool.{is_open, slot_of, Pool, state_of, pool_tests}
use Rattle.model.specs.PoolRuns.{run_pool, Own, own_calls, own_since}
use Rattle.forecast_model.specs.Forecast.{Question, Live, Room, foreseen, ahead_tests, forecast_tests, forecast, live_on, pool_forecast_tests, pool_forecast}
use Rattle.forecast_model.specs.ForecastClaim.{ForecastOf, PoolForecastSays}
use Rattle.model.proofs.Refusals.{first_rest, first-front, outcome-fails}
use Rattle.distance_claim.proofs.Claim.{demand3}
use Rattle.pool_laws.proofs.Answers.{front_tests}
use Rattle.pool_claim.proofs.Answers.{number-shut}
use Rattle.pool_claim.proofs.Follows.{pass}
use Rattle.pool_claim.proofs.Claim.{Going, none_going, run-going}
use Rattle.forecast_claim.proofs.Claim.{forecast-says}
use Rattle.forecast_claim.proofs.Near.{fed-both, near-calls}

-- tests that pass may be left out of a row
first-skip : (ts us vs : List Finding) → first us ≡ passes → first (ts ++ us ++ vs) ≡ first (ts ++ vs)
first-skip [] us vs e = first_rest us vs e
first-skip (passes ∷ ts) us vs e = first-skip ts us vs e
first-skip (fails number place ∷ ts) us vs e = refl

-- a river that is not open
forecast-shut : (pool : Pool) (number : ℕ) → (1 ≤ number → number ≤ most_rivers → is_open (slot_of pool.table number) ≡ false) → ForecastOf pool number none
unfolding pool_forecast pool_forecast_tests pool_tests
forecast-shut pool number closed sheet highest room asked front =
    let shut = number-shut pool.table number closed in
    outcome-fails (pool_forecast_tests sheet pool number highest room asked) (foreseen sheet (live_on pool number highest) asked)
    (first-front (river_tests sheet ++ front_tests pool number) (ahead_tests sheet (live_on pool number highest) room asked)
    (first_rest (river_tests sheet) (front_tests pool number) front ∙ rw shut))

-- where the pool's own tests pass, those of the river alone decide
forecast-stretch : (pool : Pool) (number : ℕ) → first (front_tests pool number) ≡ passes → (sheet highest : List ℕ) (room : Room) (asked : Question) →
    pool_forecast sheet pool number highest room asked ≡ forecast sheet (live_on pool number highest) room asked
unfolding pool_forecast pool_forecast_tests forecast forecast_tests
forecast-stretch pool number pass sheet highest room asked =
    rw (first-skip (river_tests sheet) (front_tests pool number) (ahead_tests sheet (live_on pool number highest) room asked) pass)

-- the claim
pub pool-forecast-says : PoolForecastSays
pool-forecast-says before none_open calls number =
    go (own_since number before calls none) (run-going before calls number none (none_going before number none_open))
  where
    pool : Pool
    pool = run_pool before calls

    go : (own : Option Own) → Going pool number own → ForecastOf pool number own
    go none g = forecast-shut pool number g.follows
    go (some own) g = λ alone lists.
        let f = g.follows in
        let state = run alone (own_calls own) in
        let figures : state_of pool number ≡ state = f.figures alone lists in
        let same : (sheet highest : List ℕ) (room : Room) (asked : Question) →
        pool_forecast sheet pool number highest room asked ≡ forecast sheet (record { n = own.count; state = state; highest = highest }) room asked =
        λ sheet highest room asked.
        forecast-stretch pool number (pass pool number g.sound own f) sheet highest room asked
        ∙ ap (λ n. forecast sheet (record { n = n; state = state_of pool number; highest = highest }) room asked) f.segments
        ∙ ap (λ (s : State). forecast sheet (record { n = own.count; state = s; highest = highest }) room asked) figures in
        let b = f.begun in (
          same,
          λ fed highest room asked v e.
              let live : Live = record { n = own.count; state = state; highest = highest } in
              let is = same own.sheet highest room asked in
              let e' : (forecast own.sheet live room asked).answer ≡ accepted v = ap (λ x. x.answer) (sym is) ∙ e in (
                rw (is, figures) (forecast-says own.sheet live room asked v e'),
                rw is (near-calls own.sheet alone (own_calls own)
                    (λ more q. demand3 own.sheet b.flow b.records b.columns (loaded own.sheet) b.loading alone own.count own.columns own.highest own.u (own.since ++ more)
                    (b.starts alone lists) (fed-both own.sheet alone (own_calls own) more (Fed.more (λ a. b.lists) fed) q))
                    own.count highest room asked v e'),
              ),
        )
