-- Document 02, 1 in figures holds of the definitions.
use mathlib.Core.Path.{refl}
use Rattle.lists.specs.Lists.{lowest_from, lowest, any_shorter, not_rising}
use Rattle.rounding.specs.Nearest.{nearest}
use Rattle.rounding.specs.Floor.{floor_div}
use Rattle.model.specs.Ranges.{outside, any_outside}
use Rattle.model.specs.Sheet.{flow_row_start, flow_row_top, flow_row_starts, flow_row_tops, sections, edition, starts_with, field, header_field, section_end, sections_end, count_at, sheet_end, flow_row_count, record_field, reach_fields, reach_of, reach_on, reaches, row_starts, row_concentrations, gauges, total_segments, segment_count, along_river, banded_reaches, band_count, bands_on}
use Rattle.model.specs.Flow.{last_begun, flow_in_force, top_of, course_of, reach_at, own_gain, gain, flow, bands_at, flow_at}
use Rattle.model.specs.Bands.{hydraulics_at, bands_fault}
use Rattle.model.specs.HalfStep.{site_at, fractions, numbers, loaded_segment, hydraulics_of}
use Rattle.model.specs.Sweep.{P, N, F, R, row_of, new_storage, new_sediment, new_figures, downward, stepped}
use Rattle.model.specs.State.{pair_at, numbers_at, segment_at, write_segments, figures_at, write_figures}
use Rattle.model.specs.Load.{flow_row_fault, test_flows, walk, starts_late, row_fault, gauge_fault, flow_fault, face_fault, sum_fault, sheet_tests, course_tests, list_tests, load_tests, loaded, load_answer, load_columns}
use Rattle.model.specs.Highest.{blocks_fault}
use Rattle.model.specs.Calls.{old_fault, numbers_fault, river_fault, segment_fault, figure_fault, start_fault, state_fault, held_fault, start_tests, start_left, step_left, call_result, step_tests}
use Rattle.model.specs.Bench.{bytes, all_bytes, brook, zeros, no_work, Agree}
use Rattle.model.specs.FlowBench.{snow, melting, flow_rows_told, loading_of, with_rows, first_e, old_set_with, old_set, new_columns, some_state, step_from, stepping_from, some_left, flow_bench, one_pair, old_figures, new_fractions, ExactBench}
use Rattle.model.specs.ExactRiver.{last, next}

pub flow-bench-holds : Agree flow_bench
unfolding blocks_fault brook flow_rows_told old_set_with stepping_from lowest_from lowest any_shorter not_rising nearest floor_div outside any_outside starts_with field header_field section_end sections_end count_at sheet_end record_field reach_fields reach_of reach_on reaches row_starts row_concentrations gauges total_segments segment_count along_river banded_reaches band_count bands_on bands_at flow_at hydraulics_of hydraulics_at bands_fault course_of reach_at own_gain gain flow site_at fractions numbers loaded_segment P N F R row_of new_storage new_sediment new_figures downward stepped segment_at write_segments figures_at write_figures walk starts_late row_fault gauge_fault flow_fault face_fault sum_fault sheet_tests course_tests list_tests load_tests loaded load_answer load_columns river_fault segment_fault figure_fault start_fault state_fault held_fault start_tests start_left step_left call_result step_tests bytes all_bytes zeros no_work top_of sections edition flow_row_count test_flows numbers_fault numbers_at old_fault pair_at last_begun flow_in_force flow_row_start flow_row_top flow_row_starts flow_row_tops flow_row_fault snow melting loading_of first_e old_set new_columns some_state flow_bench with_rows step_from some_left
flow-bench-holds = (refl, (refl, (refl, (refl, (refl, (refl, (refl, (refl, (refl, (refl, (refl, (refl, (refl, (refl, (refl, (refl, (refl, (refl, (refl, (refl, (refl, (refl, (refl, (refl, (refl, (refl, tt))))))))))))))))))))))))))

-- The exact step holds of the equations.
pub exact-bench-holds : ExactBench
unfolding one_pair old_figures new_fractions
exact-bench-holds = next (record { channel = refl; storage = refl; sediment = refl }) last
