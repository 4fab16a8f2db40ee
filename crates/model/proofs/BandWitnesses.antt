-- The claims of document 02, 6 can be met, and can fail; and demand 3 is met by a river with bands.
use mathlib.Core.Path.{◌≡◌, refl, sym, ap, ◌∙◌}
use mathlib.Core.Bool.{true, false, false≢true, true≢false}
use mathlib.Core.List.{List, [], ◌∷◌}
use Prim.Native.Nat.{ℕ, zero, suc, ◌<◌, ◌≤◌}
use native.Mathlib.Omega.{arith}
use lib.Dec.{lit<, lit≤}
use Rattle.lists.specs.Lists.{lowest_from, lowest, any_shorter, not_rising, any_below}
use Rattle.rounding.specs.Nearest.{nearest}
use Rattle.rounding.specs.Floor.{floor_div}
use Rattle.model.specs.Ranges.{outside, any_outside}
use Rattle.model.specs.Sheet.{Band, flow_row_start, flow_row_top, flow_row_starts, flow_row_tops, sections, edition, starts_with, field, header_field, section_end, sections_end, count_at, sheet_end, flow_row_count, record_field, reach_fields, reach_of, reach_on, reach_count, reaches, row_starts, row_concentrations, gauges, total_segments, segment_count, along_river, banded_reaches, band_count, bands_on}
use Rattle.model.specs.Flow.{last_begun, flow_in_force, top_of, course_of, reach_at, bands_at, own_gain, gain, flow, flow_at}
use Rattle.model.specs.Bands.{holds, hydraulics_at, band_fault, overlap, begins, gap_behind, broken_at, bands_fault}
use Rattle.model.specs.HalfStep.{Segment, hydraulics_of, site_at, fractions, numbers, loaded_segment}
use Rattle.model.specs.Sweep.{P, N, F, R, row_of, new_storage, new_sediment, new_figures, downward, stepped}
use Rattle.model.specs.State.{loaded_segments, pair_at, numbers_at, segment_at, write_segments, figures_at, write_figures}
use Rattle.model.specs.Refusals.{accepted, passes, first}
use Rattle.model.specs.Load.{flow_row_fault, test_flows, walk, starts_late, row_fault, gauge_fault, flow_fault, face_fault, sum_fault, sheet_tests, course_tests, river_tests, list_tests, load_tests, loaded, load_answer, load_columns}
use Rattle.model.specs.Highest.{blocks_fault}
use Rattle.model.specs.Calls.{old_fault, numbers_fault, river_fault, segment_fault, figure_fault, start_fault, state_fault, held_fault, start_tests, start_left, step_left, call_result, step_tests, report_tests, step, report, reported}
use Rattle.model.specs.Runs.{alone, accepts, after, run, AllAccepted, AsLoaded, PairAsLoaded, Fed}
use Rattle.model.specs.Claim.{Holds, Demand3}
use Rattle.model.specs.BandClaim.{InOne, Among, SameBands, Reordered}
use Rattle.model.specs.Bench.{bytes, all_bytes, zeros, no_state, no_work}
use Rattle.model.specs.BandBench.{fields_with, river, one_reach, rising, low, high, valley, widening}
use Rattle.model.specs.BandWitnesses.{bands_by, turned, altered, BandsMet, CoveringBench, ReorderedBench, widening_for, widening_start, widening_steps, widening_calls, WideningMet}

-- of two or of one
one_of_two : (P : ℕ → Type 0) → P 0 → P 1 → (i : ℕ) → i < 2 → P i
one_of_two P a b zero h = a
one_of_two P a b (suc zero) h = b
one_of_two P a b (suc (suc i)) h = absurd (omega arith)

the_one : (P : ℕ → Type 0) → P 0 → (i : ℕ) → i < 1 → P i
the_one P a zero h = a
the_one P a (suc i) h = absurd (omega arith)

-- the first segment's l
first-l : List Segment → ℕ
first-l [] = 0
first-l (x ∷ xs) = x.numbers.l

-- all that is worked out from the definitions at the figures of a case, at one place
record WorkedOut : Type 0 where
  passing : bands_fault (bands_on widening 0) ≡ false
  some : 0 < (bands_on widening 0).count
  second : (x : InOne (bands_on widening 0) 500) → x.number ≡ 1
  tests : first (river_tests widening) ≡ passes
  reordered : Reordered widening turned
  rows : 1 ≤ flow_row_count widening
  covering : CoveringBench
  other : SameBands (bands_on widening 0) (bands_on altered 0) → ⊥
  kept : 0 < reach_count widening
  figures : loaded_segments widening 0 ≡ loaded_segments altered 0 → ⊥
  loads : load_answer widening 0 1 (zeros 2) ≡ accepted (loaded widening)
  starting : AsLoaded widening 2 (widening_for 0)
  all_accepted : AllAccepted (no_state 2) widening_calls
  fed : Fed widening (after (no_state 2) widening_start) widening_steps
  steps : (run (no_state 2) widening_calls).steps ≡ 1

worked-out : WorkedOut
unfolding accepts after run no_state lowest_from lowest any_shorter not_rising nearest floor_div outside any_outside starts_with field header_field section_end sections_end count_at sheet_end record_field reach_fields reach_of reach_on reaches row_starts row_concentrations gauges total_segments segment_count along_river banded_reaches band_count bands_on bands_at flow_at hydraulics_of hydraulics_at bands_fault course_of reach_at own_gain gain flow site_at fractions numbers loaded_segment P N F R row_of new_storage new_sediment new_figures downward stepped segment_at write_segments figures_at write_figures walk starts_late row_fault gauge_fault flow_fault face_fault sum_fault sheet_tests course_tests list_tests load_tests loaded load_answer load_columns blocks_fault river_fault segment_fault figure_fault start_fault state_fault held_fault start_tests start_left step_left call_result step_tests report_tests reported bytes all_bytes zeros no_work top_of sections edition flow_row_count test_flows numbers_fault numbers_at old_fault pair_at last_begun flow_in_force flow_row_start flow_row_top flow_row_starts flow_row_tops flow_row_fault any_below holds band_fault overlap begins gap_behind broken_at fields_with river one_reach rising low high valley widening turned altered bands_by widening_for widening_start widening_steps widening_calls first-l
worked-out =
    let gap : (x : InOne (bands_by 2 (0 ∷ 498 ∷ 100 ∷ 50 ∷ 100 ∷ high)) 499) → ⊥ =
    λ x. one_of_two (λ k. holds ((bands_by 2 (0 ∷ 498 ∷ 100 ∷ 50 ∷ 100 ∷ high)).band k) 499 ≡ true → ⊥) false≢true false≢true x.number x.known x.held in
    let short : (x : InOne (bands_by 1 (0 ∷ 99999999 ∷ 100 ∷ 50 ∷ 100 ∷ [])) 100000000) → ⊥ =
    λ x. the_one (λ k. holds ((bands_by 1 (0 ∷ 99999999 ∷ 100 ∷ 50 ∷ 100 ∷ [])).band k) 100000000 ≡ true → ⊥) false≢true x.number x.known x.held in
    let pair : PairAsLoaded widening 0 2 (widening_for 0).numbers (widening_for 1) = record { before = refl; after = record { count = refl; segments = refl } } in
    let report1 : AsLoaded widening 2 (widening_for 1) = record { flow = 1; known = lit≤ tt; lists = record { count = refl; segments = refl } } in
    record {
      passing = refl;
      some = lit< tt;
      second = λ x. one_of_two (λ k. holds ((bands_on widening 0).band k) 500 ≡ true → k ≡ 1) (λ e. absurd (false≢true e)) (λ e. refl) x.number x.known x.held;
      tests = refl;
      reordered =
          record {
            time = refl;
            length = refl;
            flow = λ r h. one_of_two (λ k. top_of widening k ≡ top_of turned k) refl refl r (omega arith);
            fields = refl;
            bands =
                the_one (λ i. SameBands (bands_on widening i) (bands_on turned i))
                (record {
                  there = one_of_two (λ i. Among (bands_on turned 0) ((bands_on widening 0).band i)) (record { number = 1; known = lit< tt; is = refl }) (record { number = 0; known = lit< tt; is = refl });
                  back = one_of_two (λ i. Among (bands_on widening 0) ((bands_on turned 0).band i)) (record { number = 1; known = lit< tt; is = refl }) (record { number = 0; known = lit< tt; is = refl });
                });
          };
      rows = lit≤ tt;
      covering = (
        λ c. gap (c.each 499 (lit≤ tt)),
        λ c. let x = c.each 500 (lit≤ tt) in let a = x.only 0 (lit< tt) refl in let b = x.only 1 (lit< tt) refl in omega arith,
        λ c. short (c.each 100000000 (lit≤ tt)),
        λ c. true≢false (c.sound 0 (lit< tt)),
      );
      other = λ s.
          let x = s.there 0 (lit< tt) in
          one_of_two (λ k. (bands_on altered 0).band k ≡ (bands_on widening 0).band 0 → ⊥)
          (λ e. let z = ap (λ (b : Band). b.lowest) e in omega arith)
          (λ e. let z = ap (λ (b : Band). b.hydraulics.area) e in omega arith)
          x.number x.known x.is;
      kept = lit< tt;
      figures = λ e. let z = ap first-l e in omega arith;
      loads = refl;
      starting = record { flow = 0; known = lit≤ tt; lists = record { count = refl; segments = refl } };
      all_accepted = (tt, (tt, (tt, tt)));
      fed =
          Fed.more {call = alone 2 (step (widening_for 0).numbers (widening_for 1) (0 ∷ []) (no_work 2) 3000 4)} (λ t. pair)
          (Fed.more {call = alone 2 (report (widening_for 1) 2)} (λ t. report1) Fed.none);
      steps = refl;
    }

pub bands-met : BandsMet
bands-met =
    let w = worked-out in
    record {
      passing = w.passing;
      says = λ claim. let x = ((claim (bands_on widening 0) w.some).0 w.passing).each 500 (lit≤ tt) in (x, w.second x);
      tests = w.tests;
      reordered = w.reordered;
      says_order = λ claim. claim widening turned w.reordered w.tests 1 w.rows;
    }

pub covering-bench : CoveringBench
covering-bench = worked-out.covering

pub reordered-bench : ReorderedBench
reordered-bench = (worked-out.other, λ s. worked-out.other (s.bands 0 worked-out.kept), worked-out.figures)

-- ---- demand 3 of a river with bands

widening-fed : Fed widening (no_state 2) widening_calls
unfolding widening_calls widening_start
widening-fed = Fed.more {call = widening_start} (λ t. worked-out.starting) worked-out.fed

-- what it says of the calls
widening-holds : Demand3 → Holds widening (no_state 2) widening_calls
unfolding widening_calls widening_start
widening-holds claim =
    claim widening 0 (reach_of (λ k. 0) ∷ []) (zeros 2) (loaded widening) worked-out.loads (no_state 2) 2 (widening_for 0) (0 ∷ []) 3000 widening_steps worked-out.all_accepted.0 widening-fed

pub widening-met : WideningMet
widening-met = record {
  all_accepted = worked-out.all_accepted;
  fed = widening-fed;
  says = λ claim.
      let holds = widening-holds claim in
      let q = holds.exists.0 in
      let run = holds.exists.1 in
      let n : q.n ≡ 1 = sym (holds.counted q run) ∙ worked-out.steps in
      (q, run, n, rw n at (holds.near q run));
}
