-- The claims of a forecast can be met, and can fail.
use mathlib.Core.Path.{◌≡◌, refl, sym, ap, subst, ◌∙◌}
use mathlib.Core.Bool.{false}
use mathlib.Core.List.{List, [], ◌∷◌, ◌++◌}
use mathlib.Core.Logic.{⊎_elim}
use mathlib.Core.Option.{Option, none, some}
use Prim.Native.Nat.{ℕ, ◌*◌, ◌<◌}
use native.Mathlib.Omega.{arith}
use lib.Dec.{lit≤}
use lib.ListN.{length}
use Rattle.lists.specs.Lists.{lowest_from, lowest, any_shorter, not_rising, any_below, highest_below}
use Rattle.rounding.specs.Nearest.{nearest}
use Rattle.rounding.specs.Floor.{floor_div}
use Rattle.model.specs.Ranges.{outside, any_outside}
use Rattle.model.specs.Sheet.{Reach, flow_row_start, flow_row_top, flow_row_starts, flow_row_tops, sections, edition, starts_with, field, header_field, section_end, sections_end, count_at, sheet_end, flow_row_count, record_field, reach_fields, reach_of, reach_on, reaches, row_starts, row_concentrations, gauges, total_segments, segment_count, along_river, banded_reaches, band_count, bands_on}
use Rattle.model.specs.Flow.{last_begun, flow_in_force, top_of, course_of, reach_at, own_gain, gain, flow, bands_at, flow_at}
use Rattle.model.specs.Bands.{hydraulics_at, bands_fault}
use Rattle.model.specs.HalfStep.{site_at, fractions, numbers, loaded_segment, hydraulics_of}
use Rattle.model.specs.Equations.{Figures}
use Rattle.model.specs.Sweep.{P, N, F, R, row_of, new_storage, new_sediment, new_figures, downward, stepped}
use Rattle.model.specs.State.{numbers_at, segment_at, write_segments, Columns, column_lists, loaded_segments, State, figures_at, figures_of, write_figures}
use Rattle.model.specs.Refusals.{accepted, passes, first}
use Rattle.model.specs.Load.{river_tests, flow_row_fault, test_flows, walk, starts_late, row_fault, gauge_fault, flow_fault, face_fault, sum_fault, sheet_tests, course_tests, list_tests, load_tests, loaded, load_answer, load_columns}
use Rattle.model.specs.Highest.{block_highest, blocks_fault}
use Rattle.model.specs.Upstream.{upstream_at}
use Rattle.model.specs.Calls.{Reported, river_fault, numbers_fault, segment_fault, figure_fault, start_fault, state_fault, held_fault, report_tests, reported, report, call_result}
use Rattle.model.specs.Runs.{LoneCall, run, AsLoaded, events}
use Rattle.model.specs.Claim.{Near}
use Rattle.model.specs.OwnRiver.{rows_upstream, own_step, ahead, own_working, working_ahead}
use Rattle.model.specs.OwnRiverClaim.{OwnCalls, OwnRun}
use Rattle.forecast_model.specs.Forecast.{Live, Foreseen, is_above, first_above, steps_made, foreseen, copied, copied_highest, forecast_left, forecast_fault, ahead_tests, forecast_tests, forecast}
use Rattle.forecast_model.specs.ForecastClaim.{Shows, Foretold, moves, CopiesHold}
use Rattle.model.specs.Bench.{bytes, all_bytes, zeros, no_state, no_work}
use Rattle.model.specs.FlowBench.{snow, melting}
use Rattle.model.specs.OwnRiverBench.{thaw}
use Rattle.model.specs.OwnRiverWitnesses.{channel_alone}
use Rattle.model.specs.Witnesses.{melting_for, melting_start, melting_steps, melting_calls}
use Rattle.forecast_model.specs.ForecastBench.{live_with, thawing, room_of, long_room, asking, thaw_ahead}
use Rattle.forecast_model.specs.ForecastWitnesses.{at_step2, melting_live, melting_room, not_above, CopiesNear, ForecastMet, right_copies, ForetoldBench}
use Rattle.model.proofs.Witnesses.{melting-fed, melting-state, melting-taken, melting-loads}

-- what a loading of `thaw` leaves, for a report
thaw_columns : Columns
thaw_columns = load_columns thaw 0 1 (zeros 2)

-- the state one step on
abbrev next_state : State
next_state = record { channel = 1574 ∷ 828 ∷ []; storage = 405 ∷ 348 ∷ []; sediment = 487 ∷ 361 ∷ []; upstream = 5000; steps = 2 }

-- where the calls on `melting` leave the river
abbrev melting_end : State
melting_end = record { channel = 1941 ∷ 976 ∷ []; storage = 0 ∷ 0 ∷ []; sediment = 0 ∷ 0 ∷ []; upstream = 3000; steps = 2 }

-- all that is worked out from the definitions at the figures of a case, at one place
record WorkedOut : Type 0 where
  answers : (thaw_ahead 900 3).answer ≡ accepted at_step2
  right : right_copies ≡ record { channel = 1574 ∷ 828 ∷ 7 ∷ []; storage = 405 ∷ 348 ∷ 8 ∷ []; sediment = 487 ∷ 361 ∷ 9 ∷ []; upstream = 5000; steps = 2 }
  count : thawing.state.steps ≡ 1
  next : ahead (rows_upstream thaw) thaw thawing.state 1 ≡ next_state
  -- reports
  lent : AsLoaded thaw (segment_count thaw) thaw_columns
  long : any_shorter (segment_count thaw) (column_lists thaw_columns) ≡ false
  now : (call_result (segment_count thaw) thawing.state (report thaw_columns 1)).answer ≡ accepted (record { channel = 900; storage = 350; sediment = 960 })
  later : (call_result (segment_count thaw) next_state (report thaw_columns 1)).answer ≡ accepted (record { channel = 1574; storage = 405; sediment = 1461 })
  -- the figures of the live river are not those one step on
  moved : figures_of (segment_count thaw) (record { channel = 900 ∷ 400 ∷ []; storage = 350 ∷ 310 ∷ []; sediment = 320 ∷ 305 ∷ []; upstream = 5000; steps = 2 })
      ≡ figures_of (segment_count thaw) next_state → ⊥
  -- the other forecast, with a sheet whose tests pass
  front : first (river_tests melting) ≡ passes
  none : let live : Live = record { n = 2; state = melting_end; highest = 0 ∷ [] } in
      ((forecast melting live melting_room (asking 1 1941 2)).answer ≡ accepted not_above)
      × (figures_of 2 (forecast melting live melting_room (asking 1 1941 2)).left.state ≡ channel_alone 482 1095)
      × ((forecast melting live melting_room (asking 1 1941 2)).left.state.steps ≡ 4)

-- the first segment's channel figure
first-c : List Figures → ℕ
first-c [] = 0
first-c (f ∷ fs) = f.c

worked-out : WorkedOut
unfolding lowest_from lowest any_shorter not_rising any_below highest_below nearest floor_div outside any_outside flow_row_start flow_row_top flow_row_starts flow_row_tops sections edition starts_with field header_field section_end sections_end count_at sheet_end flow_row_count record_field reach_fields reach_of reach_on reaches row_starts row_concentrations gauges total_segments segment_count along_river banded_reaches band_count bands_on last_begun flow_in_force top_of course_of reach_at own_gain gain flow bands_at flow_at hydraulics_at bands_fault site_at fractions numbers loaded_segment hydraulics_of P N F R row_of new_storage new_sediment new_figures downward stepped numbers_at segment_at write_segments figures_at write_figures flow_row_fault test_flows walk starts_late row_fault gauge_fault flow_fault face_fault sum_fault sheet_tests course_tests list_tests load_tests loaded load_answer load_columns block_highest blocks_fault upstream_at river_fault numbers_fault segment_fault figure_fault start_fault state_fault held_fault report_tests reported call_result rows_upstream own_step ahead own_working working_ahead is_above first_above steps_made foreseen copied copied_highest forecast_left forecast_fault ahead_tests forecast_tests forecast bytes all_bytes zeros no_state no_work snow melting thaw live_with thawing room_of long_room thaw_ahead melting_room right_copies thaw_columns first-c
worked-out = record {
  answers = refl;
  right = refl;
  count = refl;
  next = refl;
  lent = record { flow = 0; known = lit≤ tt; lists = record { count = refl; segments = refl } };
  long = refl;
  now = refl;
  later = refl;
  moved = λ e. let z = ap first-c e in omega arith;
  front = refl;
  none = (refl, refl, refl);
}

-- ---- what is met

-- what a report of the gauge shows
shown-is : (state : State) (c : ℕ) (v : Reported) → Shows thaw state 1 c → (call_result (segment_count thaw) state (report thaw_columns 1)).answer ≡ accepted v → c ≡ v.channel
shown-is state c v shows e =
    let x = shows thaw_columns worked-out.lent worked-out.long in sym x.2 ∙ ap (λ (r : Reported). r.channel) (same x.0 v (sym x.1 ∙ e))
  where
    same : (a b : Reported) → accepted a ≡ accepted b → a ≡ b
    same a b q = cc

-- step calls from `thawing`, one of them, and where they leave it
module _ {v : Foreseen} {copies : State} (f : Foretold thaw thawing.state (asking 1 900 3) v copies) where
  one : (calls : List LoneCall) × OwnCalls (rows_upstream thaw) thaw thawing.state.steps calls × (length calls ≡ 1)
  one = f.exist 1

  one-run : OwnRun (rows_upstream thaw) thaw thawing.state one.0
  one-run = f.runs one.0 one.1 (omega (arith, one.2))

  one-leaves : run thawing.state one.0 ≡ next_state
  one-leaves = one-run.leaves ∙ ap (ahead (rows_upstream thaw) thaw thawing.state) one.2 ∙ worked-out.next

  -- the gauge shows 1,574 behind it
  shows_later : (c : ℕ) → Shows thaw (run thawing.state one.0) 1 c → c ≡ 1574
  shows_later c shows = shown-is next_state c _ (rw one-leaves at shows) worked-out.later

  -- and 900 behind none
  shows-now : (c : ℕ) → Shows thaw thawing.state 1 c → c ≡ 900
  shows-now c shows = shown-is thawing.state c _ shows worked-out.now

  -- it does not stop behind step 2
  stops-later : 2 < v.steps → ⊥
  stops-later h =
      let x = f.before one.0 one.1 (omega (arith, one.2, worked-out.count, h)) in omega (arith, shows_later x.0 x.1, x.2)

  -- where it stops at step 2, it is above there, and the copies are the state there
  stops-at-2 : v.steps ≡ 2 → (v.found ≡ some v.steps) × (figures_of (segment_count thaw) copies ≡ figures_of (segment_count thaw) next_state)
  stops-at-2 e =
      let x = f.stops one.0 one.1 (omega (arith, one.2, worked-out.count, e)) in
      (⊎_elim (λ s. s.0) (λ s. absurd (omega (arith, shows_later x.0 x.1, s.1))) x.2, rw one-leaves at x.3.figures)

  -- it does not stop at the present step, where it has not gone to the horizon's end
  stops-now : v.steps ≡ 1 → ⊥
  unfolding run
  stops-now e =
      let x = f.stops [] OwnCalls.none (omega (arith, worked-out.count, e)) in
      ⊎_elim (λ s. omega (arith, shows-now x.0 x.1, s.1)) (λ s. omega (arith, s.2, worked-out.count, e)) x.2

some-none : (step : ℕ) → ◌≡◌ {A = Option ℕ} none (some step) → ⊥
some-none step e = let z : ◌≡◌ {A = ℕ} 0 1 = cc in omega arith

same_step : (a b : ℕ) → ◌≡◌ {A = Option ℕ} (some a) (some b) → a ≡ b
same_step a b e = cc

one_record : List Reach
one_record = reach_of (λ k. 0) ∷ []

-- on a pool too
pub melting-front : first (river_tests melting) ≡ passes
melting-front = worked-out.front

pub four-steps : (forecast melting melting_live melting_room (asking 1 1941 2)).left.state.steps ≡ 4
unfolding melting_live
four-steps = rw melting-state worked-out.none.2

-- the distance of copies with four steps done
pub near-copies : (copies : State) → CopiesHold melting (events (no_state 2) melting_calls ++ moves melting 2 4) copies → copies.steps ≡ 4 → CopiesNear copies
near-copies copies holds e =
    let q = holds.exists.0 in
    let ran = holds.exists.1 in
    (q, ran, sym (holds.counted q ran) ∙ e, subst (λ k. Near (6 * k) (loaded_segments melting 0) (figures_of (segment_count melting) copies) q.now) e (holds.near q ran))

pub forecast-met : ForecastMet
unfolding run thaw_ahead melting_live melting_calls melting_start one_record
forecast-met = record {
  found = worked-out.answers;
  says = λ claim.
      let f = claim thaw thawing long_room (asking 1 900 3) at_step2 worked-out.answers in
      let x = f.before [] OwnCalls.none (omega (arith, worked-out.count)) in
      let y = f.stops (one f).0 (one f).1 (omega (arith, (one f).2, worked-out.count)) in (
        rw (shows-now f x.0 x.1) at x.1,
        ((one f).0, subst (λ n. OwnCalls (rows_upstream thaw) thaw n (one f).0) worked-out.count (one f).1, (one f).2, (one-run f).accepted, rw (shows_later f y.0 y.1) at y.1),
      );
  loads = melting-loads;
  taken = melting-taken;
  fed = melting-fed;
  answers = rw melting-state worked-out.none.0;
  copies = rw melting-state worked-out.none.1;
  says_near = λ claim.
      let x = (forecast melting melting_live melting_room (asking 1 1941 2)).left.state in
      let holds = claim melting 0 one_record (zeros 2) (loaded melting) melting-loads (no_state 2) 2 (melting_for 0) (0 ∷ []) 3000 melting_steps melting-taken melting-fed
      2 (0 ∷ []) melting_room (asking 1 1941 2) not_above (rw melting-state worked-out.none.0) in
      near-copies x (subst (λ k. CopiesHold melting (events (no_state 2) melting_calls ++ moves melting k 4) x) (ap (λ (s : State). s.steps) melting-state) holds)
      four-steps;
}

-- ---- what is shut out

pub foretold-bench : ForetoldBench
foretold-bench = (
  λ f. some-none _ (stops-at-2 f refl).0,
  λ f. stops-later f (omega arith),
  λ f. stops-later f (omega arith),
  λ f. stops-now f refl,
  λ f. let e = same_step _ _ (stops-at-2 f refl).0 in omega arith,
  λ f. worked-out.moved (stops-at-2 f refl).1,
  λ f. stops-now f refl,
  λ f. let e = f.upstream in let u = ap (λ (s : State). s.upstream) worked-out.right in omega arith,
  λ f. let e = f.to in let n = worked-out.count in omega arith,
)
