-- The listing in bytes holds of the definitions, from the sheet's bytes to the last line.
use mathlib.Core.Path.{◌≡◌, refl}
use mathlib.Core.List.{[], ◌∷◌}
use Rattle.lists.specs.Lists.{lowest, lowest_from, not_rising}
use Rattle.rounding.specs.Nearest.{nearest}
use Rattle.rounding.specs.Floor.{floor_div}
use Rattle.model.specs.Ranges.{outside, any_outside}
use Rattle.model.specs.Sheet.{sections, edition, starts_with, field, header_field, section_end, sections_end, count_at, sheet_end, flow_row_count, record_field, reach_fields, reach_of, reach_on, reaches, row_starts, row_concentrations, gauges, total_segments, segment_count, along_river, banded_reaches, band_count, bands_on}
use Rattle.model.specs.Flow.{top_of, last_begun, flow_in_force, course_of, reach_at, own_gain, gain, flow, bands_at, flow_at}
use Rattle.model.specs.Bands.{hydraulics_at, bands_fault}
use Rattle.model.specs.HalfStep.{site_at, fractions, numbers, loaded_segment, hydraulics_of}
use Rattle.model.specs.Sweep.{P, N, F, R, row_of, new_storage, new_sediment, new_figures, downward, stepped}
use Rattle.model.specs.State.{figures_at, write_figures}
use Rattle.model.specs.Load.{test_flows, walk, starts_late, row_fault, gauge_fault, flow_fault, face_fault, sum_fault, sheet_tests, course_tests}
use Rattle.model.specs.Upstream.{upstream_at}
use Rattle.model.specs.OwnRiver.{rows_upstream, own_step, ahead, own_start}
use Rattle.model.specs.Bench.{bytes, all_bytes, brook, listed}
use Rattle.output.specs.Text.{places, decimal, ended, heading, line, done, refused}
use Rattle.output.specs.Listing.{gauge_line, step_lines, lines_at, lines_ahead, listing, printed_to, printed, text}
use Rattle.output.specs.Bench.{documented, gauged_reach, two_gauges}

-- the document's listing, byte by byte
pub listing-holds : text (printed listed) ≡ documented
unfolding lowest_from lowest not_rising nearest floor_div outside any_outside starts_with field header_field section_end sections_end count_at sheet_end record_field reach_fields reach_of reach_on reaches row_starts row_concentrations gauges total_segments segment_count along_river banded_reaches band_count bands_on bands_at flow_at hydraulics_of hydraulics_at bands_fault course_of reach_at own_gain gain flow site_at fractions numbers loaded_segment P N F R row_of new_storage new_sediment new_figures downward stepped figures_at write_figures walk starts_late row_fault gauge_fault flow_fault face_fault sum_fault sheet_tests course_tests top_of sections edition flow_row_count test_flows last_begun flow_in_force upstream_at bytes all_bytes rows_upstream own_step ahead own_start gauge_line step_lines lines_at lines_ahead listing printed_to printed text line ended decimal places heading done listed documented
listing-holds = refl

-- where only the first step is made, `done` tells one step
pub one-step : printed_to listed 1 ≡ heading ∷ line 1 1 2000 400 1334 ∷ done 1 ∷ []
unfolding lowest_from lowest not_rising nearest floor_div outside any_outside starts_with field header_field section_end sections_end count_at sheet_end record_field reach_fields reach_of reach_on reaches row_starts row_concentrations gauges total_segments segment_count along_river banded_reaches band_count bands_on bands_at flow_at hydraulics_of hydraulics_at bands_fault course_of reach_at own_gain gain flow site_at fractions numbers loaded_segment P N F R row_of new_storage new_sediment new_figures downward stepped figures_at write_figures walk starts_late row_fault gauge_fault flow_fault face_fault sum_fault sheet_tests course_tests top_of sections edition flow_row_count test_flows last_begun flow_in_force upstream_at bytes all_bytes rows_upstream own_step ahead own_start gauge_line step_lines lines_at lines_ahead listing printed_to printed text listed
one-step = refl

-- lines at steps 2 and 4 of 5, of both gauges, each with its own Kd; figures worked out apart
pub two-gauges-hold : printed two_gauges ≡ heading ∷ line 2 1 2004 533 2824 ∷ line 2 2 1423 544 2277 ∷ line 4 1 737 593 2600 ∷ line 4 2 1301 594 4227 ∷ done 5 ∷ []
unfolding lowest_from lowest not_rising nearest floor_div outside any_outside starts_with field header_field section_end sections_end count_at sheet_end record_field reach_fields reach_of reach_on reaches row_starts row_concentrations gauges total_segments segment_count along_river banded_reaches band_count bands_on bands_at flow_at hydraulics_of hydraulics_at bands_fault course_of reach_at own_gain gain flow site_at fractions numbers loaded_segment P N F R row_of new_storage new_sediment new_figures downward stepped figures_at write_figures walk starts_late row_fault gauge_fault flow_fault face_fault sum_fault sheet_tests course_tests top_of sections edition flow_row_count test_flows last_begun flow_in_force upstream_at bytes all_bytes rows_upstream own_step ahead own_start gauge_line step_lines lines_at lines_ahead listing printed_to printed text gauged_reach two_gauges
two-gauges-hold = refl

-- T7: `refused 12` and nothing else
pub refusal-line : text (printed (brook 3 1000 1 0)) ≡ 114 ∷ 101 ∷ 102 ∷ 117 ∷ 115 ∷ 101 ∷ 100 ∷ 32 ∷ 49 ∷ 50 ∷ 10 ∷ []
unfolding lowest_from lowest not_rising nearest floor_div outside any_outside starts_with field header_field section_end sections_end count_at sheet_end record_field reach_fields reach_of reach_on reaches row_starts row_concentrations gauges total_segments segment_count along_river banded_reaches band_count bands_on bands_at flow_at hydraulics_of hydraulics_at bands_fault course_of reach_at own_gain gain flow site_at fractions numbers loaded_segment P N F R row_of new_storage new_sediment new_figures downward stepped figures_at write_figures walk starts_late row_fault gauge_fault flow_fault face_fault sum_fault sheet_tests course_tests top_of sections edition flow_row_count test_flows last_begun flow_in_force upstream_at bytes all_bytes printed_to printed text refused ended decimal places brook
refusal-line = refl
