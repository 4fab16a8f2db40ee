-- A list of calls on a pool that `Sharing` and `PoolSearchTold` speak of.
use mathlib.Core.Path.{◌≡◌, refl, sym, ap, ◌∙◌}
use mathlib.Core.Bool.{true, false, true≢false}
use mathlib.Core.List.{List, [], ◌∷◌}
use mathlib.Core.Option.{none, some}
use Prim.Native.Nat.{ℕ, ◌<◌}
use native.Mathlib.Omega.{arith}
use lib.Dec.{lit<, lit≤}
use lib.ListN.{get_or, take}
use Rattle.lists.specs.Lists.{lowest_from, lowest, any_shorter, not_rising, any_below, sum_below, highest_below, stretch}
use Rattle.rounding.specs.Nearest.{nearest}
use Rattle.rounding.specs.Floor.{floor_div}
use Rattle.model.specs.Ranges.{outside, any_outside}
use Rattle.model.specs.Sheet.{flow_row_start, flow_row_top, flow_row_starts, flow_row_tops, sections, edition, starts_with, field, header_field, section_end, sections_end, count_at, sheet_end, flow_row_count, record_field, reach_fields, reach_of, reach_on, reaches, row_starts, row_concentrations, gauges, total_segments, segment_count, along_river, banded_reaches, band_count, bands_on}
use Rattle.model.specs.Flow.{last_begun, flow_in_force, top_of, course_of, reach_at, own_gain, gain, flow, bands_at, flow_at}
use Rattle.model.specs.Bands.{hydraulics_at, bands_fault}
use Rattle.model.specs.HalfStep.{site_at, fractions, numbers, loaded_segment, hydraulics_of}
use Rattle.model.specs.Sweep.{P, N, F, R, row_of, new_storage, new_sediment, new_figures, downward, stepped}
use Rattle.model.specs.State.{State, pair_at, numbers_at, segment_at, write_segments, figures_at, write_figures}
use Rattle.model.specs.Refusals.{accepted, passes, first}
use Rattle.model.specs.Load.{flow_row_fault, test_flows, walk, starts_late, row_fault, gauge_fault, flow_fault, face_fault, sum_fault, sheet_tests, course_tests, list_tests, load_tests, loaded, load_answer, load_columns}
use Rattle.model.specs.Highest.{block_highest, blocks_fault}
use Rattle.model.specs.Calls.{old_fault, numbers_fault, river_fault, segment_fault, figure_fault, start_fault, state_fault, held_fault, start_tests, start_left, step_left, call_result, step_tests, report_tests, reported, start, step, report}
use Rattle.model.specs.Search.{search_tests}
use Rattle.model.specs.Runs.{LoneCall, accepts, after, run, Fed}
use Rattle.model.specs.Pool.{is_open, slot_of, state_of, PoolSearchAnswer, open_segments, room_fault, table_fault, number_fault, shared_fault, pool_tests, pool_result, pool_search_tests, open_highest, close_finding, closed_table, open_tests, open_answer, covered, covered_below, kept, packed, pool_open}
use Rattle.model.specs.PoolRuns.{pool_accepts, after_call, run_pool, own_calls, own_since, highest_since}
use Rattle.model.specs.Bench.{bytes, all_bytes, zeros, no_state, no_work}
use Rattle.model.specs.FlowBench.{snow, melting}
use Rattle.model.specs.PoolBench.{sheet_with_start}
use Rattle.model.specs.Witnesses.{all_closed, pool_calls, AllAcceptedOn, river1_with, river1, melting_start, SharingMet, ShownBench, melting_for, melting_step, melting_steps, melting_calls, PoolSearchMet}
use Rattle.model.proofs.Refusals.{fails-passes}
use Rattle.model.proofs.Witnesses.{melting-fed, all_closed_lem, names-first}

-- what the calls answer, and which are river 1's own
pub pool-calls : (AllAcceptedOn all_closed pool_calls) × (own_since 1 all_closed pool_calls none ≡ some river1)
    × (own_since 2 all_closed pool_calls none ≡ none)
unfolding any_below sum_below open_segments room_fault table_fault number_fault shared_fault pool_tests pool_result close_finding closed_table open_tests open_answer covered covered_below kept packed pool_open pool_accepts after_call own_since run_pool sheet_with_start all_closed pool_calls river1_with river1 accepts after run melting_for melting_start melting_step melting_steps melting_calls no_state lowest_from lowest any_shorter not_rising nearest floor_div outside any_outside starts_with field header_field section_end sections_end count_at sheet_end record_field reach_fields reach_of reach_on reaches row_starts row_concentrations gauges total_segments segment_count along_river banded_reaches band_count bands_on bands_at flow_at hydraulics_of hydraulics_at bands_fault course_of reach_at own_gain gain flow site_at fractions numbers loaded_segment P N F R row_of new_storage new_sediment new_figures downward stepped segment_at write_segments figures_at write_figures walk starts_late row_fault gauge_fault flow_fault face_fault sum_fault sheet_tests course_tests list_tests load_tests loaded load_answer load_columns blocks_fault river_fault segment_fault figure_fault start_fault state_fault held_fault start_tests start_left step_left call_result step_tests report_tests reported bytes all_bytes zeros no_work top_of sections edition flow_row_count test_flows numbers_fault numbers_at old_fault pair_at last_begun flow_in_force flow_row_start flow_row_top flow_row_starts flow_row_tops flow_row_fault snow melting
pool-calls = (
  (tt, (tt, (tt, (tt, (tt, (tt, tt)))))),
  refl,
  refl,
)

-- what comes behind the first call of a list
pub later : {sheet : List ℕ} {state : State} {call : LoneCall} {calls : List LoneCall} → Fed sheet state (call ∷ calls) → Fed sheet (after state call) calls
later (Fed.more lent fed) = fed

pub sharing-met : SharingMet
unfolding river1 river1_with melting_calls melting_start no_state melting_for
sharing-met = record {
  none_open = all_closed_lem;
  all_accepted = pool-calls.0;
  own = pool-calls.1;
  says = λ claim.
      let opened = rw pool-calls.1 at (claim all_closed all_closed_lem pool_calls 1).0 in
      ((opened.alone (no_state 2) (record { channel = refl; storage = refl; sediment = refl })).demand3 (later melting-fed), opened.closes);
  says_closed = λ claim.
      let closed = rw pool-calls.2 at (claim all_closed all_closed_lem pool_calls 2).0 in
      (closed.calls (start (zeros 3) (0 ∷ []) 0), closed.calls (step (zeros 3).numbers (zeros 3) (0 ∷ []) (no_work 3) 0 1), closed.calls (report (zeros 3) 1), closed.closes);
  says_opening = λ claim. (claim all_closed all_closed_lem pool_calls 2).1;
}

-- river 1 on the pool, and the highest figures that it was left
abbrev river1_state : State
river1_state = state_of (run_pool all_closed pool_calls) 1

abbrev river1_highest : List ℕ
river1_highest = highest_since 1 all_closed pool_calls []

river-1 : let pool = run_pool all_closed pool_calls in
    (is_open (slot_of pool.table 1) ≡ true) × (first (pool_search_tests pool.table pool.channel 1 river1_highest) ≡ passes)
    × ((slot_of pool.table 1).segments ≡ 2) × (100 < get_or river1_state.channel 0 0) × (100 < get_or river1_highest 0 0)
unfolding search_tests pool_search_tests highest_below block_highest start_left step_left call_result open_highest pool_result highest_since any_below sum_below open_segments room_fault table_fault number_fault shared_fault pool_tests close_finding closed_table open_tests open_answer covered covered_below kept packed pool_open pool_accepts after_call own_since run_pool sheet_with_start all_closed pool_calls river1_with river1 accepts after run melting_for melting_start melting_step melting_steps melting_calls no_state lowest_from lowest any_shorter not_rising nearest floor_div outside any_outside starts_with field header_field section_end sections_end count_at sheet_end record_field reach_fields reach_of reach_on reaches row_starts row_concentrations gauges total_segments segment_count along_river banded_reaches band_count bands_on bands_at flow_at hydraulics_of hydraulics_at bands_fault course_of reach_at own_gain gain flow site_at fractions numbers loaded_segment P N F R row_of new_storage new_sediment new_figures downward stepped segment_at write_segments figures_at write_figures walk starts_late row_fault gauge_fault flow_fault face_fault sum_fault sheet_tests course_tests list_tests load_tests loaded load_answer load_columns blocks_fault river_fault segment_fault figure_fault start_fault state_fault held_fault start_tests step_tests report_tests reported bytes all_bytes zeros no_work top_of sections edition flow_row_count test_flows numbers_fault numbers_at old_fault pair_at last_begun flow_in_force flow_row_start flow_row_top flow_row_starts flow_row_tops flow_row_fault snow melting
river-1 = (refl, refl, refl, lit< tt, lit< tt)

pub pool-search-met : PoolSearchMet
pool-search-met =
    let it = river-1 in
    let pool = run_pool all_closed pool_calls in
    let x = slot_of pool.table 1 in
    let answers : PoolSearchAnswer pool.table pool.channel 1 river1_highest 100 (accepted (some 1)) =
    names-first (pool_search_tests pool.table pool.channel 1 river1_highest) x.segments (stretch x.first x.segments pool.channel) river1_highest 100
    it.1 (record { inside = omega (arith, it.2); segment = it.3; block = it.4 }) in
    record { opened = it.0; answers = answers; says = λ claim. claim all_closed all_closed_lem pool_calls 1 (lit≤ tt) (lit≤ tt) it.0 100 (accepted (some 1)) answers }

-- the tables' figures
tables : let table = (run_pool all_closed pool_calls).table in
    (close_finding table 1 ≡ passes) × (is_open (slot_of table 2) ≡ false) × ((slot_of table 1).steps ≡ 2)
    × ((run (no_state 2) (own_calls (river1_with (take 1 melting_steps)))).steps ≡ 1)
unfolding search_tests pool_search_tests highest_below block_highest start_left step_left call_result open_highest pool_result highest_since any_below sum_below open_segments room_fault table_fault number_fault shared_fault pool_tests close_finding closed_table open_tests open_answer covered covered_below kept packed pool_open pool_accepts after_call own_since run_pool sheet_with_start all_closed pool_calls river1_with river1 accepts after run melting_for melting_start melting_step melting_steps melting_calls no_state lowest_from lowest any_shorter not_rising nearest floor_div outside any_outside starts_with field header_field section_end sections_end count_at sheet_end record_field reach_fields reach_of reach_on reaches row_starts row_concentrations gauges total_segments segment_count along_river banded_reaches band_count bands_on bands_at flow_at hydraulics_of hydraulics_at bands_fault course_of reach_at own_gain gain flow site_at fractions numbers loaded_segment P N F R row_of new_storage new_sediment new_figures downward stepped segment_at write_segments figures_at write_figures walk starts_late row_fault gauge_fault flow_fault face_fault sum_fault sheet_tests course_tests list_tests load_tests loaded load_answer load_columns blocks_fault river_fault segment_fault figure_fault start_fault state_fault held_fault start_tests step_tests report_tests reported bytes all_bytes zeros no_work top_of sections edition flow_row_count test_flows numbers_fault numbers_at old_fault pair_at last_begun flow_in_force flow_row_start flow_row_top flow_row_starts flow_row_tops flow_row_fault snow melting
tables = (refl, refl, refl, refl)

pub shown-bench : ShownBench
shown-bench =
    let it = tables in (
      λ closed. fails-passes (sym closed.closes ∙ it.0),
      λ own opened. true≢false (sym opened.opened ∙ it.1),
      λ alone. let e = ap (λ (x : State). x.steps) alone.figures in omega (arith, it.2, it.3),
    )
