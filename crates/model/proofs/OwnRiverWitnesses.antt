-- The claims of the sheet's own river can be met, and can fail.
use mathlib.Core.Path.{◌≡◌, refl, sym, ap, ◌∙◌}
use mathlib.Core.Bool.{false}
use mathlib.Core.List.{List, [], ◌∷◌}
use Prim.Native.Nat.{ℕ, zero, suc, ◌*◌, ◌<◌, ◌≤◌, zero-le}
use native.Mathlib.Omega.{arith}
use borrow.Author.Tests.{le-ltb}
use lib.Dec.{T, lit≤}
use lib.ListN.{length}
use Rattle.lists.specs.Lists.{lowest_from, lowest, any_shorter, not_rising}
use Rattle.rounding.specs.Nearest.{nearest}
use Rattle.rounding.specs.Floor.{floor_div}
use Rattle.model.specs.Ranges.{outside, any_outside, concentration, highest}
use Rattle.model.specs.Sheet.{Reach, flow_row_start, flow_row_top, flow_row_starts, flow_row_tops, sections, edition, starts_with, field, header_field, steps_m, section_end, sections_end, count_at, sheet_end, flow_row_count, record_field, reach_fields, reach_of, reach_on, reaches, row_starts, row_concentrations, gauges, total_segments, segment_count, along_river, banded_reaches, band_count, bands_on}
use Rattle.model.specs.Flow.{last_begun, flow_in_force, top_of, course_of, reach_at, own_gain, gain, flow, bands_at, flow_at}
use Rattle.model.specs.Bands.{hydraulics_at, bands_fault}
use Rattle.model.specs.HalfStep.{site_at, fractions, numbers, loaded_segment, hydraulics_of}
use Rattle.model.specs.Equations.{Figures}
use Rattle.model.specs.Sweep.{P, N, F, R, row_of, new_storage, new_sediment, new_figures, downward, stepped}
use Rattle.model.specs.State.{numbers_at, segment_at, write_segments, State, state_lists, figures_at, figures_of, write_figures}
use Rattle.model.specs.Refusals.{accepted}
use Rattle.model.specs.Load.{flow_row_fault, test_flows, walk, starts_late, row_fault, gauge_fault, flow_fault, face_fault, sum_fault, sheet_tests, course_tests, list_tests, load_tests, loaded, load_answer, load_columns}
use Rattle.model.specs.Highest.{blocks_fault}
use Rattle.model.specs.Upstream.{upstream_at, upstream_answer}
use Rattle.model.specs.Calls.{numbers_fault, river_fault, segment_fault, figure_fault, start_fault, held_fault, start_tests, start_left, step_tests, call_result}
use Rattle.model.specs.Runs.{accepts, after, run, AllAccepted, AsLoaded}
use Rattle.model.specs.OwnRiver.{rows_upstream, own_step, ahead, own_start, own_state, own_events}
use Rattle.model.specs.OwnRiverClaim.{UpstreamInRange, StepLent, OwnCalls}
use Rattle.model.specs.Bench.{bytes, all_bytes, zeros, no_state, no_work}
use Rattle.model.specs.FlowBench.{snow, melting, some_state}
use Rattle.model.specs.OwnRiverBench.{thaw}
use Rattle.model.specs.Witnesses.{melting_for, refused_calls}
use Rattle.model.specs.OwnRiverWitnesses.{surge, surge_start, surge_step, late_steps, surge_steps, surge_calls, late_state, channel_alone, OwnRiverMet, OwnRunBench, AlikeBench, OwnEventsBench}

-- U stays in range up to M
surge-range : (j : ℕ) → j ≤ 4 → outside concentration (surge j) ≡ false
unfolding outside surge
surge-range j h = rw (le-ltb (1000 * suc j) 0 zero-le, le-ltb highest (1000 * suc j) (omega arith))

-- the first segment's channel figure
first-c : List Figures → ℕ
first-c [] = 0
first-c (f ∷ fs) = f.c

-- and the second's
second-c : List Figures → ℕ
second-c [] = 0
second-c (f ∷ fs) = first-c fs

-- all that is worked out from the definitions at the figures of a case, at one place
record WorkedOut : Type 0 where
  -- the sheet
  loads : load_answer melting 0 1 (zeros 2) ≡ accepted (loaded melting)
  segments : segment_count melting ≡ 2
  M : steps_m melting ≡ 4
  told : (loaded melting).steps ≡ 4
  -- what the calls are lent
  starting : AsLoaded melting 2 (melting_for 0)
  taken : T (accepts (no_state 2) surge_start)
  late : OwnCalls surge melting 2 late_steps
  own : OwnCalls surge melting 0 surge_steps
  all : length surge_steps ≡ 4
  two_more : length late_steps ≡ 2
  fifth : StepLent melting 4 (melting_for 2).numbers (melting_for 2) (0 ∷ []) (no_work 2)
  beyond : outside concentration 6000 ≡ false
  -- where the river is then
  end : figures_of (segment_count melting) (own_state surge melting (length surge_steps)) ≡ channel_alone 3861 2640
  count : (own_state surge melting (length surge_steps)).steps ≡ 4
  two : figures_of (segment_count melting) (own_state surge melting 2) ≡ channel_alone 1463 629
  fed : OwnEventsBench
  -- the other state
  long : any_shorter (segment_count melting) (state_lists late_state) ≡ false
  figures : (i : ℕ) → i < segment_count melting → figure_fault (figures_at late_state i) ≡ false
  held : held_fault late_state ≡ false
  late_end : ahead surge melting late_state (length late_steps)
      ≡ record { channel = 375667 ∷ 988778 ∷ []; storage = 3000000 ∷ 500000 ∷ []; sediment = 700000 ∷ 900000 ∷ []; upstream = 5000; steps = 4 }
  -- the rows of the other sheet
  loads_thaw : load_answer thaw 0 1 (zeros 2) ≡ accepted (loaded thaw)
  rows : upstream_answer (loaded thaw).steps 2 (row_starts thaw) (row_concentrations thaw) ≡ upstream_answer 4 2 (0 ∷ 2 ∷ []) (1000 ∷ 5000 ∷ [])
  rows_at2 : rows_upstream thaw 2 ≡ 5000
  -- what is shut out
  refusing : AllAccepted (no_state 2) refused_calls → ⊥
  still : ahead surge melting late_state 1 ≡ late_state → ⊥
  further : ahead surge melting late_state 1 ≡ ahead surge melting late_state 2 → ⊥
  alike : AlikeBench

worked-out : WorkedOut
unfolding lowest_from lowest any_shorter not_rising nearest floor_div outside any_outside flow_row_start flow_row_top flow_row_starts flow_row_tops sections edition starts_with field header_field section_end sections_end count_at sheet_end flow_row_count record_field reach_fields reach_of reach_on reaches row_starts row_concentrations gauges total_segments segment_count along_river banded_reaches band_count bands_on last_begun flow_in_force top_of course_of reach_at own_gain gain flow bands_at flow_at hydraulics_at bands_fault site_at fractions numbers loaded_segment hydraulics_of P N F R row_of new_storage new_sediment new_figures downward stepped numbers_at segment_at write_segments figures_at write_figures flow_row_fault test_flows walk starts_late row_fault gauge_fault flow_fault face_fault sum_fault sheet_tests course_tests list_tests load_tests loaded load_answer load_columns blocks_fault upstream_at numbers_fault river_fault segment_fault figure_fault start_fault held_fault start_tests start_left step_tests call_result accepts after rows_upstream own_step ahead own_start own_state own_events bytes all_bytes zeros no_state no_work snow melting some_state thaw melting_for refused_calls surge surge_start surge_step late_steps surge_steps late_state first-c second-c
worked-out =
    let lent0 : StepLent melting 0 (melting_for 0).numbers (melting_for 1) (0 ∷ []) (no_work 2) = record { pair = record { before = refl; after = record { count = refl; segments = refl } }; old_long = refl; new_long = refl; working_long = refl; blocks = refl } in
    let lent1 : StepLent melting 1 (melting_for 1).numbers (melting_for 1) (0 ∷ []) (no_work 2) = record { pair = record { before = refl; after = record { count = refl; segments = refl } }; old_long = refl; new_long = refl; working_long = refl; blocks = refl } in
    let lent2 : StepLent melting 2 (melting_for 1).numbers (melting_for 2) (0 ∷ []) (no_work 2) = record { pair = record { before = refl; after = record { count = refl; segments = refl } }; old_long = refl; new_long = refl; working_long = refl; blocks = refl } in
    let lent3 : StepLent melting 3 (melting_for 2).numbers (melting_for 2) (0 ∷ []) (no_work 2) = record { pair = record { before = refl; after = record { count = refl; segments = refl } }; old_long = refl; new_long = refl; working_long = refl; blocks = refl } in
    let late : OwnCalls surge melting 2 late_steps = OwnCalls.more lent2 (OwnCalls.more lent3 OwnCalls.none) in
    record {
      loads = refl;
      segments = refl;
      M = refl;
      told = refl;
      starting = record { flow = 0; known = lit≤ tt; lists = record { count = refl; segments = refl } };
      taken = tt;
      late = late;
      own = OwnCalls.more lent0 (OwnCalls.more lent1 late);
      all = refl;
      two_more = refl;
      fifth = record { pair = record { before = refl; after = record { count = refl; segments = refl } }; old_long = refl; new_long = refl; working_long = refl; blocks = refl };
      beyond = refl;
      end = refl;
      count = refl;
      two = refl;
      fed = refl;
      long = refl;
      figures = two-clear;
      held = refl;
      late_end = refl;
      loads_thaw = refl;
      rows = refl;
      rows_at2 = refl;
      refusing = λ t. t.0;
      still = λ e. let z = ap (λ (s : State). s.steps) e in omega arith;
      further = λ e. let z = ap (λ (s : State). s.steps) e in omega arith;
      alike = (
        record { figures = refl; upstream = refl; steps = refl },
        λ a. let z = ap first-c a.figures in omega arith,
        λ a. let z = ap second-c a.figures in omega arith,
        λ a. let z = a.upstream in omega arith,
        λ a. let z = a.steps in omega arith,
      );
    }
  where
    two-clear : (i : ℕ) → i < 2 → figure_fault (figures_at late_state i) ≡ false
    two-clear zero h = refl
    two-clear (suc zero) h = refl
    two-clear (suc (suc i)) h = absurd (omega arith)

-- U is in range up to the M that the loading tells
told-range : (from : ℕ) → UpstreamInRange surge from (loaded melting).steps
told-range from j b h = surge-range j (omega (arith, worked-out.told))

-- the records that the loading is lent
abbrev one_record : List Reach
one_record = reach_of (λ k. 0) ∷ []

pub own-river-met : OwnRiverMet
unfolding surge surge_start surge_step surge_calls late_state
own-river-met =
    let w = worked-out in
    let few : length surge_steps ≤ (loaded melting).steps = omega (arith, w.all, w.told) in
    record {
      loads = w.loads;
      in_range = told-range 0;
      starting = w.starting;
      taken = w.taken;
      own = w.own;
      all = w.all ∙ sym w.told;
      says = λ claim.
          let x = claim melting 0 one_record (zeros 2) (loaded melting) w.loads surge (told-range 0) (no_state 2) 2 (melting_for 0) (0 ∷ []) w.starting w.taken surge_steps w.own few in
          let state = run (no_state 2) surge_calls in
          let count : state.steps ≡ 4 = x.1.steps ∙ w.count in
          let fifth : StepLent melting state.steps (melting_for 2).numbers (melting_for 2) (0 ∷ []) (no_work 2) = rw count w.fifth in
          let done = x.3 (w.all ∙ sym w.told) (melting_for 2).numbers (melting_for 2) (0 ∷ []) (no_work 2) 6000 fifth w.beyond in
          ((w.taken, x.0.accepted), x.1.figures ∙ w.end, x.2, rw (w.segments, w.M) at done);
      long = w.long;
      figures = w.figures;
      held = w.held;
      late = w.late;
      says_onwards = λ claim.
          let x = claim melting 0 one_record (zeros 2) (loaded melting) w.loads late_state w.long w.figures w.held surge (told-range 3) late_steps w.late (omega (arith, w.two_more, w.told)) in
          let state = run late_state late_steps in
          let end = x.0.leaves ∙ w.late_end in
          let fifth : StepLent melting state.steps (melting_for 2).numbers (melting_for 2) (0 ∷ []) (no_work 2) = rw end w.fifth in
          let done = x.1 (omega (arith, w.two_more, w.told)) (melting_for 2).numbers (melting_for 2) (0 ∷ []) (no_work 2) 6000 fifth w.beyond in
          (x.0.accepted, end, x.0.fed, rw (w.segments, w.M) at done);
      says_near = λ claim.
          let x = claim melting 0 one_record (zeros 2) (loaded melting) w.loads surge (told-range 0) 2 (omega (arith, w.told)) in
          let q = x.exists.0 in
          let ran = x.exists.1 in
          (q, rw w.fed at ran, rw w.two at (x.near q ran));
      says_rows = λ claim. sym w.rows ∙ (claim thaw 0 one_record (zeros 2) (loaded thaw) w.loads_thaw 2).0 ∙ ap accepted w.rows_at2;
      says_exist = λ claim.
          let x = claim melting 0 one_record (zeros 2) (loaded melting) w.loads surge (told-range 0 0 (omega arith) (omega arith)) 4 in
          (x.4, x.5.2, x.5.3);
    }

pub own-run-bench : OwnRunBench
own-run-bench = let w = worked-out in (w.refusing, λ x. w.refusing x.accepted, w.still, w.further)

pub alike-bench : AlikeBench
alike-bench = worked-out.alike

pub own-events-bench : OwnEventsBench
own-events-bench = worked-out.fed
