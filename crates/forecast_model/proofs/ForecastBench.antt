-- Document 02, 7 in figures holds of the definitions.
use mathlib.Core.Path.{refl}
use Rattle.lists.specs.Lists.{lowest_from, lowest, any_shorter, not_rising, any_below, highest_below}
use Rattle.rounding.specs.Nearest.{nearest}
use Rattle.rounding.specs.Floor.{floor_div}
use Rattle.model.specs.Ranges.{outside, any_outside}
use Rattle.model.specs.Sheet.{flow_row_start, flow_row_top, flow_row_starts, flow_row_tops, sections, edition, starts_with, field, header_field, section_end, sections_end, count_at, sheet_end, flow_row_count, record_field, reach_fields, reach_of, reach_on, reaches, row_starts, row_concentrations, gauges, total_segments, segment_count, along_river, banded_reaches, band_count, bands_on}
use Rattle.model.specs.Flow.{last_begun, flow_in_force, top_of, course_of, reach_at, own_gain, gain, flow, bands_at, flow_at}
use Rattle.model.specs.Bands.{hydraulics_at, bands_fault}
use Rattle.model.specs.HalfStep.{site_at, fractions, numbers, hydraulics_of}
use Rattle.model.specs.Sweep.{P, N, F, R, row_of, new_storage, new_sediment, new_figures, downward, stepped}
use Rattle.model.specs.State.{figures_at, write_figures}
use Rattle.model.specs.Load.{flow_row_fault, test_flows, walk, starts_late, row_fault, gauge_fault, flow_fault, face_fault, sum_fault, sheet_tests, course_tests}
use Rattle.model.specs.Highest.{block_highest, blocks_fault}
use Rattle.model.specs.Upstream.{upstream_at}
use Rattle.model.specs.Calls.{river_fault, figure_fault, held_fault}
use Rattle.model.specs.OwnRiver.{rows_upstream, own_step, ahead, own_working, working_ahead}
use Rattle.model.specs.Pool.{table_fault, number_fault, shared_fault, pool_tests}
use Rattle.forecast_model.specs.Forecast.{is_above, first_above, steps_made, foreseen, copied, copied_highest, forecast_left, forecast_fault, ahead_tests, forecast_tests, forecast, pool_forecast_tests, pool_forecast}
use Rattle.model.specs.Bench.{bytes, all_bytes, brook, Agree}
use Rattle.model.specs.PoolBench.{found, table_of}
use Rattle.model.specs.OwnRiverBench.{thaw, told}
use Rattle.forecast_model.specs.ForecastBench.{live_with, thawing, room_of, long_room, foretells, thaw_ahead, turned_away, thaw_pool, pool_finds, forecast_bench}

pub forecast-bench-holds : Agree forecast_bench
unfolding lowest_from lowest any_shorter not_rising any_below highest_below nearest floor_div outside any_outside flow_row_start flow_row_top flow_row_starts flow_row_tops sections edition starts_with field header_field section_end sections_end count_at sheet_end flow_row_count record_field reach_fields reach_of reach_on reaches row_starts row_concentrations gauges total_segments segment_count along_river banded_reaches band_count bands_on last_begun flow_in_force top_of course_of reach_at own_gain gain flow bands_at flow_at hydraulics_at bands_fault site_at fractions numbers hydraulics_of P N F R row_of new_storage new_sediment new_figures downward stepped figures_at write_figures flow_row_fault test_flows walk starts_late row_fault gauge_fault flow_fault face_fault sum_fault sheet_tests course_tests block_highest blocks_fault upstream_at river_fault figure_fault held_fault rows_upstream own_step ahead own_working working_ahead table_fault number_fault shared_fault pool_tests is_above first_above steps_made foreseen copied copied_highest forecast_left forecast_fault ahead_tests forecast_tests forecast pool_forecast_tests pool_forecast bytes all_bytes brook found table_of thaw told live_with thawing room_of long_room foretells thaw_ahead turned_away thaw_pool pool_finds forecast_bench
forecast-bench-holds = (refl, (refl, (refl, (refl, (refl, (refl, (refl, (refl, (refl, (refl, (refl, (refl, (refl, (refl, (refl, tt)))))))))))))))
