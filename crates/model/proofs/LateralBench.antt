-- Document 02, 2 in figures holds of the definitions.
use mathlib.Core.Path.{refl}
use Rattle.lists.specs.Lists.{lowest_from, lowest, any_shorter, not_rising}
use Rattle.rounding.specs.Nearest.{nearest}
use Rattle.rounding.specs.Floor.{floor_div}
use Rattle.model.specs.Ranges.{outside, any_outside}
use Rattle.model.specs.Sheet.{sections, edition, starts_with, field, header_field, section_end, sections_end, count_at, sheet_end, flow_row_count, record_field, reach_fields, reach_of, reach_on, reaches, row_starts, row_concentrations, gauges, total_segments, segment_count, along_river, banded_reaches, band_count, bands_on}
use Rattle.model.specs.Flow.{top_of, course_of, reach_at, own_gain, gain, flow, bands_at, flow_at}
use Rattle.model.specs.Bands.{hydraulics_at, bands_fault}
use Rattle.model.specs.HalfStep.{site_at, fractions, numbers, loaded_segment, hydraulics_of}
use Rattle.model.specs.State.{write_segments}
use Rattle.model.specs.Load.{test_flows, walk, starts_late, row_fault, gauge_fault, flow_fault, face_fault, sum_fault, sheet_tests, course_tests, list_tests, load_tests, loaded, load_answer, load_columns}
use Rattle.model.specs.Bench.{bytes, all_bytes, zeros, Agree}
use Rattle.model.specs.FlowBench.{loading_of}
use Rattle.model.specs.LateralBench.{reach_with, sheet_with, slope_with, fed_below, discharges, lateral_bench}

pub lateral-bench-holds : Agree lateral_bench
unfolding lowest_from lowest any_shorter not_rising nearest floor_div outside any_outside sections edition starts_with field header_field section_end sections_end count_at sheet_end flow_row_count record_field reach_fields reach_of reach_on reaches row_starts row_concentrations gauges total_segments segment_count along_river banded_reaches band_count bands_on bands_at flow_at hydraulics_of hydraulics_at bands_fault top_of course_of reach_at own_gain gain flow site_at fractions numbers loaded_segment write_segments test_flows walk starts_late row_fault gauge_fault flow_fault face_fault sum_fault sheet_tests course_tests list_tests load_tests loaded load_answer load_columns bytes all_bytes zeros loading_of reach_with sheet_with slope_with fed_below discharges lateral_bench
lateral-bench-holds = (refl, (refl, (refl, (refl, (refl, (refl, (refl, (refl, tt))))))))
