-- Document 02, 3 in figures holds of the definitions.
use mathlib.Core.Path.{refl}
use Rattle.lists.specs.Lists.{lowest_from, lowest, any_shorter, not_rising, any_below, sum_below}
use Rattle.rounding.specs.Nearest.{nearest}
use Rattle.rounding.specs.Floor.{floor_div}
use Rattle.model.specs.Ranges.{outside, any_outside}
use Rattle.model.specs.Sheet.{sections, edition, starts_with, field, header_field, section_end, sections_end, count_at, sheet_end, flow_row_count, record_field, reach_fields, reach_of, reach_on, reaches, row_starts, row_concentrations, gauges, total_segments, segment_count, along_river, banded_reaches, band_count, bands_on}
use Rattle.model.specs.Flow.{top_of, course_of, reach_at, own_gain, gain, flow, bands_at, flow_at}
use Rattle.model.specs.Bands.{hydraulics_at, bands_fault}
use Rattle.model.specs.HalfStep.{site_at, fractions, numbers, loaded_segment, hydraulics_of}
use Rattle.model.specs.State.{numbers_at, segment_at, write_figures}
use Rattle.model.specs.Load.{test_flows, walk, starts_late, row_fault, gauge_fault, flow_fault, face_fault, sum_fault, sheet_tests, course_tests, list_tests, loaded}
use Rattle.model.specs.Highest.{blocks_fault}
use Rattle.model.specs.Calls.{river_fault, numbers_fault, segment_fault, start_fault, start_tests, start_left, step_left, call_result}
use Rattle.model.specs.Pool.{open_segments, room_fault, table_fault, number_fault, shared_fault, pool_tests, pool_result, close_finding, closed_table, open_tests, open_answer, covered, covered_below, kept, packed, pool_open}
use Rattle.model.specs.Bench.{bytes, all_bytes, zeros, Agree}
use Rattle.model.specs.PoolBench.{open_at, closed_at, table_of, ground, found, figures_in, three_in, two_open, pool_with, sheet_with_start, opening_of, eighteen, nearly_full, room, overlapping, beside_two, marked7, from10, long_pool, short_pool, broken_pool, small_start, closes, shown_of, opened_with, starting_of, pool_bench}

pub pool-bench-holds : Agree pool_bench
unfolding blocks_fault lowest_from lowest any_shorter not_rising any_below sum_below nearest floor_div outside any_outside sections edition starts_with field header_field section_end sections_end count_at sheet_end flow_row_count record_field reach_fields reach_of reach_on reaches row_starts row_concentrations gauges total_segments segment_count along_river banded_reaches band_count bands_on bands_at flow_at hydraulics_of hydraulics_at bands_fault top_of course_of reach_at own_gain gain flow site_at fractions numbers loaded_segment numbers_at segment_at write_figures test_flows walk starts_late row_fault gauge_fault flow_fault face_fault sum_fault sheet_tests course_tests list_tests loaded river_fault numbers_fault segment_fault start_fault start_tests start_left step_left call_result open_segments room_fault table_fault number_fault shared_fault pool_tests pool_result close_finding closed_table open_tests open_answer covered covered_below kept packed pool_open bytes all_bytes zeros open_at closed_at table_of ground found figures_in three_in two_open pool_with sheet_with_start opening_of pool_bench eighteen nearly_full room overlapping beside_two marked7 from10 long_pool short_pool broken_pool small_start closes shown_of opened_with starting_of
pool-bench-holds = (refl, (refl, (refl, (refl, (refl, (refl, (refl, (refl, (refl, (refl, (refl, (refl, (refl, (refl, (refl, (refl, (refl, tt)))))))))))))))))
