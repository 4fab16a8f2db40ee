-- Document 02, 6 in figures holds of the definitions.
use mathlib.Core.Path.{refl}
use Rattle.lists.specs.Lists.{lowest_from, lowest, any_shorter, not_rising, any_below}
use Rattle.rounding.specs.Nearest.{nearest}
use Rattle.rounding.specs.Floor.{floor_div}
use Rattle.model.specs.Ranges.{outside, any_outside}
use Rattle.model.specs.Sheet.{sections, edition, starts_with, field, header_field, section_end, sections_end, count_at, sheet_end, flow_row_count, flow_row_start, flow_row_top, flow_row_starts, flow_row_tops, record_field, reach_fields, reach_of, reach_on, reaches, row_starts, row_concentrations, gauges, total_segments, segment_count, along_river, banded_reaches, band_count, bands_on}
use Rattle.model.specs.Flow.{last_begun, flow_in_force, top_of, course_of, reach_at, bands_at, own_gain, gain, flow, flow_at}
use Rattle.model.specs.Bands.{holds, hydraulics_at, band_fault, overlap, begins, gap_behind, broken_at, bands_fault}
use Rattle.model.specs.HalfStep.{hydraulics_of, site_at, fractions, numbers, loaded_segment}
use Rattle.model.specs.State.{write_segments}
use Rattle.model.specs.Load.{test_flows, walk, starts_late, row_fault, gauge_fault, flow_row_fault, flow_fault, face_fault, sum_fault, sheet_tests, course_tests, list_tests, load_tests, loaded, load_answer, load_columns}
use Rattle.model.specs.Bench.{bytes, all_bytes, zeros, Agree}
use Rattle.model.specs.FlowBench.{loading_of}
use Rattle.model.specs.BandBench.{fields_with, river, one_reach, rising, low, high, valley, widening, two_reaches, loading_of_two, numbers_of_flow, first_l, with_bands, band_bench}

pub band-bench-holds : Agree band_bench
unfolding lowest_from lowest any_shorter not_rising any_below nearest floor_div outside any_outside sections edition starts_with field header_field section_end sections_end count_at sheet_end flow_row_count flow_row_start flow_row_top flow_row_starts flow_row_tops record_field reach_fields reach_of reach_on reaches row_starts row_concentrations gauges total_segments segment_count along_river banded_reaches band_count bands_on last_begun flow_in_force top_of course_of reach_at bands_at own_gain gain flow flow_at holds hydraulics_at band_fault overlap begins gap_behind broken_at bands_fault hydraulics_of site_at fractions numbers loaded_segment write_segments test_flows walk starts_late row_fault gauge_fault flow_row_fault flow_fault face_fault sum_fault sheet_tests course_tests list_tests load_tests loaded load_answer load_columns bytes all_bytes zeros loading_of fields_with river one_reach rising low high valley widening two_reaches loading_of_two numbers_of_flow first_l with_bands band_bench
band-bench-holds = (refl, (refl, (refl, (refl, (refl, (refl, (refl, (refl, (refl, (refl, (refl, (refl, (refl, (refl, (refl, (refl, (refl, (refl, (refl, (refl, (refl, (refl, (refl, (refl, tt))))))))))))))))))))))))
