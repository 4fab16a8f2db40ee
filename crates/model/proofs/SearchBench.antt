-- Document 02, 5 in figures holds of the definitions.
use mathlib.Core.Path.{refl}
use Rattle.lists.specs.Lists.{lowest_from, lowest, any_shorter, not_rising, any_below, sum_below, highest_below}
use Rattle.rounding.specs.Nearest.{nearest}
use Rattle.rounding.specs.Floor.{floor_div}
use Rattle.model.specs.Ranges.{outside, any_outside}
use Rattle.model.specs.Sheet.{flow_row_start, flow_row_top, flow_row_starts, flow_row_tops, sections, edition, starts_with, field, header_field, section_end, sections_end, count_at, sheet_end, flow_row_count, record_field, reach_fields, reach_of, reach_on, reaches, row_starts, row_concentrations, gauges, total_segments, segment_count, along_river, banded_reaches, band_count, bands_on}
use Rattle.model.specs.Flow.{top_of, course_of, reach_at, own_gain, gain, flow, bands_at, flow_at}
use Rattle.model.specs.Bands.{hydraulics_at, bands_fault}
use Rattle.model.specs.HalfStep.{site_at, fractions, numbers, loaded_segment, hydraulics_of}
use Rattle.model.specs.Sweep.{P, N, F, R, row_of, new_storage, new_sediment, new_figures, downward, stepped}
use Rattle.model.specs.State.{pair_at, numbers_at, segment_at, figures_at, write_figures}
use Rattle.model.specs.Load.{flow_row_fault, test_flows, walk, starts_late, row_fault, gauge_fault, flow_fault, face_fault, sum_fault, sheet_tests, course_tests, list_tests, loaded}
use Rattle.model.specs.Highest.{blocks_fault, block_highest}
use Rattle.model.specs.Calls.{old_fault, numbers_fault, river_fault, segment_fault, figure_fault, start_fault, state_fault, held_fault, start_tests, start_left, step_left, call_result, step_tests}
use Rattle.model.specs.Search.{search_tests}
use Rattle.model.specs.Pool.{open_segments, room_fault, table_fault, number_fault, shared_fault, pool_tests, pool_result, open_tests, open_answer, open_highest, pool_search_tests}
use Rattle.model.specs.Bench.{bytes, all_bytes, zeros, no_work, Agree, no_state}
use Rattle.model.specs.FlowBench.{old_set_with, old_set, new_columns, some_state}
use Rattle.model.specs.PoolBench.{open_at, closed_at, table_of, found, two_open, pool_with, from10, long_pool, short_pool, sheet_with_start}
use Rattle.model.specs.SearchBench.{full_columns, full_state, full_left, started_highest, stepped_highest, starting_with, stepping_with, river3_highest, searching, searching_on, search_bench}

pub search-bench-holds : Agree search_bench
unfolding blocks_fault old_set_with lowest_from lowest any_shorter not_rising nearest floor_div outside any_outside starts_with field header_field section_end sections_end count_at sheet_end record_field reach_fields reach_of reach_on reaches row_starts row_concentrations gauges total_segments segment_count along_river banded_reaches band_count bands_on bands_at flow_at hydraulics_of hydraulics_at bands_fault course_of reach_at own_gain gain flow site_at fractions numbers loaded_segment P N F R row_of new_storage new_sediment new_figures downward stepped segment_at figures_at write_figures walk starts_late row_fault gauge_fault flow_fault face_fault sum_fault sheet_tests course_tests list_tests loaded river_fault segment_fault figure_fault start_fault state_fault held_fault start_tests start_left step_left call_result step_tests bytes all_bytes zeros no_work top_of sections edition flow_row_count test_flows numbers_fault numbers_at old_fault pair_at flow_row_start flow_row_top flow_row_starts flow_row_tops flow_row_fault old_set new_columns some_state any_below sum_below open_segments room_fault table_fault number_fault shared_fault pool_tests pool_result open_tests open_answer open_at closed_at table_of found two_open pool_with sheet_with_start highest_below block_highest search_tests open_highest pool_search_tests no_state full_columns full_state searching search_bench full_left started_highest stepped_highest starting_with stepping_with from10 long_pool short_pool river3_highest searching_on
search-bench-holds = (refl, (refl, (refl, (refl, (refl, (refl, (refl, (refl, (refl, (refl, (refl, (refl, (refl, (refl, (refl, (refl, tt))))))))))))))))
