-- An accepted forecast beside step calls of the sheet's own river from the live state.
use mathlib.Core.Path.{◌≡◌, refl, sym, ap, ◌∙◌}
use mathlib.Core.Bool.{Bool, true, false}
use mathlib.Core.List.{List}
use mathlib.Core.Logic.{inl, inr}
use Prim.Native.Nat.{ℕ, ◌+◌, ◌-◌, ◌<◌, ◌≤◌}
use native.Mathlib.Omega.{arith}
use borrow.Author.Tests.{le-ltb, ltb-true, ltb-false}
use lib.ListN.{length, replicate, length-replicate}
use Rattle.lists.specs.Lists.{any_shorter}
use Rattle.lists.proofs.Shorter.{none-shorter}
use Rattle.model.specs.Sheet.{steps_m, reach_count, flow_row_count, segment_count}
use Rattle.model.specs.State.{column_lists, figures_at}
use Rattle.model.specs.Refusals.{accepted, passes, first, answer}
use Rattle.model.specs.Load.{river_tests, list_tests, load_tests, loaded, load_answer}
use Rattle.model.specs.Runs.{LoneCall, run}
use Rattle.model.specs.OwnRiver.{rows_upstream, Alike}
use Rattle.model.specs.OwnRiverClaim.{OwnCalls, OwnRun, UpstreamInRange}
use Rattle.forecast_model.specs.Forecast.{Question, Live, Room, Foreseen, state_at, is_above, steps_made, foreseen, forecast_left, ahead_tests, forecast_tests, forecast}
use Rattle.forecast_model.specs.ForecastClaim.{Shows, Says, Foretold, ForecastSays}
use Rattle.model.specs.Bench.{zeros}
use Rattle.model.proofs.Refusals.{first_rest, first-both, accepted-passes, accepted-values, outcome-passes}
use Rattle.own_river_laws.proofs.Ahead.{ahead-counts}
use Rattle.own_river_laws.proofs.Sheets.{rows-range, most-steps}
use Rattle.own_river_laws.proofs.Standing.{Standing, stands-tested}
use Rattle.forecast_laws.proofs.Passed.{Passed, tests-passed, gauge-inside}
use Rattle.forecast_laws.proofs.Found.{made-most, none_before, sees-above, sees-none, at-the-end}
use Rattle.forecast_laws.proofs.Copies.{ahead-copied}
use Rattle.own_river_claim.proofs.Claim.{own-run, ahead-stands}
use Rattle.own_river_claim.proofs.Exist.{own-calls}
use Rattle.forecast_claim.proofs.Shows.{shows}

-- ---- a sheet whose tests pass is loaded into lists that are long enough

zeros-long : (n : ℕ) → any_shorter n (column_lists (zeros n)) ≡ false
unfolding zeros
zeros-long n =
    let none : List ℕ = replicate n 0 in
    let h : n ≤ length none = omega (arith, length-replicate {A = ℕ} n 0) in
    none-shorter n _ (h, (h, (h, (h, (h, (h, (h, (h, (h, (h, (h, (h, (h, (h, tt))))))))))))))

loads : (sheet : List ℕ) → first (river_tests sheet) ≡ passes → load_answer sheet 0 (reach_count sheet) (zeros (segment_count sheet)) ≡ accepted (loaded sheet)
unfolding load_answer load_tests list_tests
loads sheet front =
    outcome-passes (load_tests sheet 0 (reach_count sheet) (zeros (segment_count sheet))) (loaded sheet)
    (first_rest (river_tests sheet) _ front ∙ rw (le-ltb (flow_row_count sheet) 0 (omega arith), zeros-long (segment_count sheet), le-ltb (reach_count sheet) (reach_count sheet) (omega arith)))

-- ---- an accepted forecast

module _ (sheet : List ℕ) (live : Live) (room : Room) (asked : Question) (v : Foreseen) (e : (forecast sheet live room asked).answer ≡ accepted v) where
  -- all its tests pass
  tests : first (forecast_tests sheet live room asked) ≡ passes
  unfolding forecast
  tests = accepted-passes (forecast_tests sheet live room asked) (foreseen sheet live asked) (rw e tt)

  pub front : first (river_tests sheet) ≡ passes
  unfolding forecast_tests
  front = (first-both (river_tests sheet) (ahead_tests sheet live room asked) tests).0

  passed : Passed sheet live room asked
  unfolding forecast_tests
  passed = tests-passed sheet live room asked (first-both (river_tests sheet) (ahead_tests sheet live room asked) tests).1

  -- what it hands back, and leaves
  value : foreseen sheet live asked ≡ v
  unfolding forecast
  value = accepted-values (forecast_tests sheet live room asked) (foreseen sheet live asked) v e

  left-state : (forecast sheet live room asked).left.state ≡ (forecast_left sheet live room asked).state
  unfolding forecast
  left-state = rw tests

  -- the live state is one that the river may stand in
  pub live-stands : Standing sheet live.state
  live-stands = stands-tested sheet live.state (rw passed.count passed.live_long) (λ i h. passed.figures i (rw passed.count at h)) passed.held

  pub in_range : (from : ℕ) → UpstreamInRange (rows_upstream sheet) from (steps_m sheet)
  in_range from j b h = rows-range sheet front j

  -- so many steps on
  abbrev made : ℕ
  made = steps_made sheet live asked

  -- the count where it stops
  pub counts : v.steps ≡ live.state.steps + made
  unfolding foreseen
  counts = ap (λ (x : Foreseen). x.steps) (sym value) ∙ ahead-counts (rows_upstream sheet) sheet live.state made

  within : live.state.steps + asked.horizon ≤ steps_m sheet
  within = passed.few

  gauge : (1 ≤ asked.gauge) × (asked.gauge ≤ live.n)
  gauge = gauge-inside sheet live room asked front passed

  -- the gauge k steps on
  shows-at : (k : ℕ) → k ≤ asked.horizon → Shows sheet (state_at sheet live k) asked.gauge (figures_at (state_at sheet live k) (asked.gauge - 1)).c
  shows-at k h =
      shows sheet front (state_at sheet live k)
      (ahead-stands sheet front (rows_upstream sheet) 0 (in_range 0) live.state k live-stands (omega arith) (omega (arith, within)))
      (omega (arith, ahead-counts (rows_upstream sheet) sheet live.state k, within, most-steps sheet front))
      asked.gauge gauge.0 (omega (arith, gauge.1, passed.count))

  pub runs : (calls : List LoneCall) → OwnCalls (rows_upstream sheet) sheet live.state.steps calls → length calls ≤ asked.horizon →
      OwnRun (rows_upstream sheet) sheet live.state calls
  runs calls own h = own-run sheet front (rows_upstream sheet) 0 (in_range 0) live.state calls live-stands own (omega arith) (omega (arith, within))

  -- the copies where it stops
  pub copies-alike : Alike (segment_count sheet) (forecast sheet live room asked).left.state (state_at sheet live made)
  unfolding forecast_left
  copies-alike = rw left-state (ahead-copied sheet live room.copies (sym passed.count) made)

  -- such calls can be had
  pub calls-exist : (k : ℕ) → (calls : List LoneCall) × OwnCalls (rows_upstream sheet) sheet live.state.steps calls × (length calls ≡ k)
  calls-exist k =
      let x = own-calls sheet 0 (reach_count sheet) (zeros (segment_count sheet)) (loaded sheet) (loads sheet front) (rows_upstream sheet) k live.state.steps in
      (x.0, x.1.0, x.1.1)

  -- what it says where it stops
  says : Says live.state.steps asked v (figures_at (state_at sheet live made) (asked.gauge - 1)).c
  unfolding is_above
  says = go (is_above sheet live asked made) refl
    where
      c : ℕ
      c = (figures_at (state_at sheet live made) (asked.gauge - 1)).c

      go : (t : Bool) → is_above sheet live asked made ≡ t → Says live.state.steps asked v c
      go true q =
          let x = sym value ∙ sees-above sheet live asked q in
          inl (ap (λ (y : Foreseen). y.found) x ∙ rw counts, ltb-true asked.limit c q)
      go false q =
          let x = sym value ∙ sees-none sheet live asked q in
          inr (ap (λ (y : Foreseen). y.found) x, ltb-false asked.limit c q, omega (arith, counts, at-the-end sheet live asked q))

  -- where it is not above
  below : (k : ℕ) → is_above sheet live asked k ≡ false → (figures_at (state_at sheet live k) (asked.gauge - 1)).c ≤ asked.limit
  unfolding is_above
  below k q = ltb-false asked.limit (figures_at (state_at sheet live k) (asked.gauge - 1)).c q

  foretold : Foretold sheet live.state asked v (forecast sheet live room asked).left.state
  unfolding foreseen
  foretold = record {
    exist = calls-exist;
    runs = runs;
    from = omega (arith, counts);
    to = omega (arith, counts, made-most sheet live asked);
    before = λ calls own h.
        let few : length calls < made = omega (arith, h, counts) in
        let x = runs calls own (omega (arith, few, made-most sheet live asked)) in
        let k = length calls in
        ((figures_at (state_at sheet live k) (asked.gauge - 1)).c, rw x.leaves (shows-at k (omega (arith, few, made-most sheet live asked))), below k (none_before sheet live asked k few));
    stops = λ calls own h.
        let all : length calls ≡ made = omega (arith, h, counts) in
        let x = runs calls own (omega (arith, all, made-most sheet live asked)) in
        let is : run live.state calls ≡ state_at sheet live made = x.leaves ∙ ap (state_at sheet live) all in
        ((figures_at (state_at sheet live made) (asked.gauge - 1)).c, rw is (shows-at made (made-most sheet live asked)), says, rw is copies-alike);
    upstream = copies-alike.upstream ∙ ap (λ (x : Foreseen). x.upstream) value;
    steps = copies-alike.steps ∙ ap (λ (x : Foreseen). x.steps) value;
  }

pub forecast-says : ForecastSays
forecast-says sheet live room asked v e = foretold sheet live room asked v e
