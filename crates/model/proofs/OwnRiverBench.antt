-- The sheet's own river in figures holds of the definitions.
use mathlib.Core.Path.{refl}
use Rattle.lists.specs.Lists.{lowest_from, lowest, any_shorter, not_rising}
use Rattle.rounding.specs.Nearest.{nearest}
use Rattle.rounding.specs.Floor.{floor_div}
use Rattle.model.specs.Ranges.{outside, any_outside}
use Rattle.model.specs.Sheet.{flow_row_start, flow_row_top, flow_row_starts, flow_row_tops, sections, edition, starts_with, field, header_field, section_end, sections_end, count_at, sheet_end, flow_row_count, record_field, reach_fields, reach_of, reach_on, reaches, row_starts, row_concentrations, gauges, total_segments, segment_count, along_river, banded_reaches, band_count, bands_on}
use Rattle.model.specs.Flow.{last_begun, flow_in_force, top_of, course_of, reach_at, own_gain, gain, flow, bands_at, flow_at}
use Rattle.model.specs.Bands.{hydraulics_at, bands_fault}
use Rattle.model.specs.HalfStep.{site_at, fractions, numbers, loaded_segment, hydraulics_of}
use Rattle.model.specs.Sweep.{P, N, F, R, row_of, new_storage, new_sediment, new_figures, downward, stepped}
use Rattle.model.specs.State.{numbers_at, segment_at, write_segments, figures_at, write_figures}
use Rattle.model.specs.Load.{flow_row_fault, test_flows, walk, starts_late, row_fault, gauge_fault, flow_fault, face_fault, sum_fault, sheet_tests, course_tests, list_tests, load_tests, loaded, load_answer, load_columns}
use Rattle.model.specs.Highest.{blocks_fault}
use Rattle.model.specs.Upstream.{upstream_at}
use Rattle.model.specs.Calls.{numbers_fault, river_fault, segment_fault, start_fault, start_tests, start_left, call_result}
use Rattle.model.specs.OwnRiver.{rows_upstream, own_step, ahead, own_start, own_state}
use Rattle.model.specs.Bench.{bytes, all_bytes, brook, zeros, no_state, brook2, started2, listed, listed_columns, listed_state, Agree}
use Rattle.model.specs.FlowBench.{snow, melting, some_state}
use Rattle.model.specs.OwnRiverBench.{thaw, told, thaw_at, own_river_bench}

pub own-river-bench-holds : Agree own_river_bench
unfolding lowest_from lowest any_shorter not_rising nearest floor_div outside any_outside flow_row_start flow_row_top flow_row_starts flow_row_tops sections edition starts_with field header_field section_end sections_end count_at sheet_end flow_row_count record_field reach_fields reach_of reach_on reaches row_starts row_concentrations gauges total_segments segment_count along_river banded_reaches band_count bands_on last_begun flow_in_force top_of course_of reach_at own_gain gain flow bands_at flow_at hydraulics_at bands_fault site_at fractions numbers loaded_segment hydraulics_of P N F R row_of new_storage new_sediment new_figures downward stepped numbers_at segment_at write_segments figures_at write_figures flow_row_fault test_flows walk starts_late row_fault gauge_fault flow_fault face_fault sum_fault sheet_tests course_tests list_tests load_tests loaded load_answer load_columns blocks_fault upstream_at numbers_fault river_fault segment_fault start_fault start_tests start_left call_result rows_upstream own_step ahead own_start own_state bytes all_bytes brook zeros no_state brook2 started2 listed listed_columns listed_state snow melting some_state thaw told thaw_at own_river_bench
own-river-bench-holds = (refl, (refl, (refl, (refl, (refl, (refl, (refl, (refl, (refl, tt)))))))))
