-- A report in a state that the sheet's own river may stand in is accepted.
use mathlib.Core.Path.{◌≡◌, refl, ap}
use mathlib.Core.Bool.{false}
use mathlib.Core.List.{List}
use Prim.Native.Nat.{ℕ, ◌-◌, ◌<◌, ◌≤◌}
use native.Mathlib.Omega.{arith}
use borrow.Author.Tests.{le-ltb}
use Rattle.lists.specs.Lists.{lowest, any_shorter}
use Rattle.lists.proofs.Lowest.{lowest-end}
use Rattle.lists.proofs.Shorter.{shorter-both}
use Rattle.model.specs.Ranges.{outside, most_steps, most_segments}
use Rattle.model.specs.Sheet.{segment_count}
use Rattle.model.specs.State.{Columns, column_lists, State, state_lists, figures_at}
use Rattle.model.specs.Refusals.{segment, passes, first}
use Rattle.model.specs.Load.{river_tests}
use Rattle.model.specs.Calls.{river_fault, start_fault, state_fault, held_fault, report_tests, reported, report}
use Rattle.model.specs.Runs.{AsLoaded}
use Rattle.forecast_model.specs.ForecastClaim.{Shows}
use Rattle.model.proofs.Refusals.{each-passes}
use Rattle.model.proofs.Calls.{result-passes}
use Rattle.loading_laws.proofs.AsLoaded.{segment-as-loaded}
use Rattle.own_river_laws.proofs.Sheets.{some-segments, most-segments, segment-clear}
use Rattle.own_river_laws.proofs.Standing.{Standing, figure-clear, stands_at}

module _ (sheet : List ℕ) (front : first (river_tests sheet) ≡ passes) (state : State) (stands : Standing sheet state) (few : state.steps ≤ most_steps)
    (gauge : ℕ) (low : 1 ≤ gauge) (high : gauge ≤ segment_count sheet) where
  module _ (columns : Columns) (loaded : AsLoaded sheet (segment_count sheet) columns) (long : any_shorter (segment_count sheet) (column_lists columns) ≡ false) where
    -- 14, of segment i
    report-clear : (i : ℕ) → i < segment_count sheet → state_fault (segment_count sheet) columns state i ≡ false
    unfolding state_fault start_fault
    report-clear i h =
        rw (segment-as-loaded loaded.lists i h, segment-clear sheet front loaded.flow loaded.known i h)
        (figure-clear (figures_at state i) (stands_at sheet state stands i h))

    report-tests : first (report_tests (segment_count sheet) columns state gauge) ≡ passes
    unfolding report_tests river_fault held_fault outside
    report-tests =
        let n = segment_count sheet in
        let low' : lowest n (state_fault n columns state) ≡ n = lowest-end (state_fault n columns state) n report-clear in
        rw (
          le-ltb n 1 (some-segments sheet front),
          le-ltb most_segments n (most-segments sheet front),
          shorter-both n (column_lists columns) (state_lists state),
          long,
          stands.long,
          le-ltb gauge 1 low,
          le-ltb n gauge high,
          each-passes 14 segment n (state_fault n columns state) (omega (arith, low')),
          stands.upstream,
          le-ltb most_steps state.steps few,
        )

  -- and shows the state's figure
  pub shows : Shows sheet state gauge (figures_at state (gauge - 1)).c
  unfolding reported
  shows columns loaded long =
      (reported columns state (gauge - 1), ap (λ x. x.answer) (result-passes (segment_count sheet) state (report columns gauge) (report-tests columns loaded long)), refl)
