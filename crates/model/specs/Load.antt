-- A loading: tests 1 to 13 with 16 and 19 among them, its answer, and the later content of the lists that it is lent.
use Rattle.std.specs.Prelude.{Bool, not, cond, ◌||◌, List, [], ◌∷◌, ◌++◌, ℕ, zero, suc, ◌+◌, ◌*◌, eqb, ltb, pos, length, get_or}
use Rattle.std.specs.Int.Signed.{lt_z}
use Rattle.lists.specs.Lists.{tab, over, any_shorter, not_rising}
use Rattle.rounding.specs.Nearest.{S}
use Rattle.model.specs.Ranges.{◌to◌, since, Section, outside, any_outside, header_ranges, reach_ranges, concentration, flows, most_segments}
use Rattle.model.specs.Sheet.{edition, sections, field, header, steps_m, interval, section_end, reach_count_at, sheet_end, row_count_at, gauge_count_at, flow_row_count_at, reach_count, row_count, gauge_count, flow_row_count, Reach, reach_fields, reaches, row_starts, row_concentrations, gauges, flow_row_starts, flow_row_tops, segment_count, bands_on}
use Rattle.model.specs.Flow.{Course, course_of}
use Rattle.model.specs.Bands.{bands_fault}
use Rattle.model.specs.HalfStep.{Site, ad, site_at, discharge, Numbers, numbers}
use Rattle.model.specs.Equations.{sum_t, sum_v}
use Rattle.model.specs.State.{Columns, column_lists, loaded_segments, write_segments}
use Rattle.model.specs.Refusals.{nothing, reach, segment, row, Outcome, Finding, passes, fails, test, test_each, first, outcome_of, left_after}

-- "only 2 and 3 are found on one walk from the front, and the one met first decides": section by section from the count at `at`;
-- 2, the sheet ends before the count or before its last record, 3, "A count is outside its range."
unfoldable pub walk : List ℕ → (at : ℕ) → List Section → Finding
walk sheet at [] = passes
walk sheet at (section ∷ more) =
    cond (ltb (length sheet) (at + 4)) (fails 2 nothing)
    (cond (outside section.counts (field sheet at)) (fails 3 nothing)
    (cond (ltb (length sheet) (section_end sheet at section)) (fails 2 nothing)
    (walk sheet (section_end sheet at section) more)))

-- 8. "The first starts at 0, starts rise strictly, none exceeds M", and the concentration is in its range: row j of two lists
unfoldable pub starts_late : List ℕ → ℕ → Bool
starts_late starts zero = not (eqb (get_or starts 0 0) 0)
starts_late starts (suc j) = not_rising starts (suc j)

-- and the whole of 8, of row j
unfoldable pub row_fault : (M : ℕ) → (starts concentrations : List ℕ) → ℕ → Bool
row_fault M starts concentrations j =
    starts_late starts j || ltb M (get_or starts j 0) || outside concentration (get_or concentrations j 0)

-- 9. "segment numbers, strictly rising, from 1 to the river's last"
unfoldable pub gauge_fault : (n : ℕ) → List ℕ → ℕ → Bool
gauge_fault n gauges j = outside (1 to n) (get_or gauges j 0) || not_rising gauges j

-- 16. "starts from 1 to M and strictly rising", and "a top flow in its old range": flow row j of two lists
unfoldable pub flow_row_fault : (M : ℕ) → (starts tops : List ℕ) → ℕ → Bool
flow_row_fault M starts tops j = outside (1 to M) (get_or starts j 0) || not_rising starts j || outside flows (get_or tops j 0)

-- 10. "A flow is below 0 or above 100,000,000"
unfoldable pub flow_fault : Site → Bool
flow_fault site = lt_z site.flow (pos flows.low) || lt_z (pos flows.high) site.flow

-- 11. "Q × dx exceeds AD own + AD below"
unfoldable pub face_fault : Site → Bool
face_fault site = ltb (ad site.hydraulics + site.below) (discharge site * site.dx)

-- 12. "T, V or h exceeds one whole"
unfoldable pub sum_fault : Numbers → Bool
sum_fault n = ltb S (sum_t n) || ltb S (sum_v n) || ltb S n.h

-- tests 1 to 9 and then 16 and 19, of the sheet's own fields
unfoldable pub sheet_tests : List ℕ → List Finding
sheet_tests sheet =
    test 1 (eqb (edition sheet) 0) ∷
    walk sheet reach_count_at (sections sheet) ∷
    test 4 (ltb (sheet_end sheet) (length sheet)) ∷
    test 5 (any_outside (header_ranges (steps_m sheet)) (header sheet)) ∷
    test_each 6 reach (reach_count sheet) (λ i. any_outside (reach_ranges (edition sheet)) (reach_fields sheet i)) ∷
    test 7 (ltb most_segments (segment_count sheet)) ∷
    test_each 8 row (row_count sheet) (row_fault (steps_m sheet) (row_starts sheet) (row_concentrations sheet)) ∷
    test_each 9 row (gauge_count sheet) (gauge_fault (segment_count sheet) (gauges sheet)) ∷
    test_each 16 row (flow_row_count sheet) (flow_row_fault (steps_m sheet) (flow_row_starts sheet) (flow_row_tops sheet)) ∷
    test_each 19 reach (reach_count sheet) (λ i. bands_fault (bands_on sheet i)) ∷
    []

-- a test "made for the top flow and then for every row in turn"; "the first flow at fault gives the place"
unfoldable pub test_flows : (rows : ℕ) → (ℕ → Finding) → Finding
test_flows rows finding = first (tab 0 (suc rows) finding)

-- tests 10 to 12, of n segments with the flow at the top and those of the rows; "each .. before the next check"
unfoldable pub course_tests : (n rows : ℕ) → (ℕ → Course) → List Finding
course_tests n rows course =
    test_flows rows (λ r. test_each 10 segment n (λ i. flow_fault (site_at (course r) i))) ∷
    test_flows rows (λ r. test_each 11 segment n (λ i. face_fault (site_at (course r) i))) ∷
    test_flows rows (λ r. test_each 12 segment n (λ i. sum_fault (numbers (site_at (course r) i)))) ∷
    []

-- tests 1 to 12, of a sheet by itself; "16 .. after 9", "19 .. after 16"
abbrev pub river_tests : List ℕ → List Finding
river_tests sheet = sheet_tests sheet ++ course_tests (segment_count sheet) (flow_row_count sheet) (course_of sheet)

-- test 13, of "a flow row's number (.. 13 if past the rows)", which is r, and of the lists lent; `records` is the length of the list of reach records
unfoldable pub list_tests : List ℕ → (r records : ℕ) → Columns → List Finding
list_tests sheet r records columns =
    test 13 (ltb (flow_row_count sheet) r || any_shorter (segment_count sheet) (column_lists columns) || ltb records (reach_count sheet)) ∷ []

-- "Loading tests 1 to 13"
unfoldable pub load_tests : List ℕ → (r records : ℕ) → Columns → List Finding
load_tests sheet r records columns = river_tests sheet ++ list_tests sheet r records columns

-- "Its result also gives M, the print interval, the segment count, and where the rows and the gauges begin on the sheet and how
-- many there are", and "tells where the flow rows begin and how many there are (both 0 in OTR1)"
pub record Loaded : Type 0 where
  pub steps : ℕ
  pub interval : ℕ
  pub segments : ℕ
  pub rows_at : ℕ
  pub rows : ℕ
  pub gauges_at : ℕ
  pub gauges : ℕ
  pub flow_rows_at : ℕ
  pub flow_rows : ℕ

-- those of a sheet; rows and gauges begin behind their count
unfoldable pub loaded : List ℕ → Loaded
loaded sheet = record {
  steps = steps_m sheet;
  interval = interval sheet;
  segments = segment_count sheet;
  rows_at = row_count_at sheet + 4;
  rows = row_count sheet;
  gauges_at = gauge_count_at sheet + 4;
  gauges = gauge_count sheet;
  flow_rows_at = since 2 (edition sheet) (flow_row_count_at sheet + 4) 0;
  flow_rows = flow_row_count sheet;
}

-- the answer
unfoldable pub load_answer : List ℕ → (r records : ℕ) → Columns → Outcome Loaded
load_answer sheet r records columns = outcome_of (load_tests sheet r records columns) (loaded sheet)

-- the fourteen lists afterwards: an accepted loading writes their first entries, with "that flow's set", a refusal nothing
abbrev pub columns_after : Outcome Loaded → List ℕ → (r : ℕ) → Columns → Columns
columns_after answer sheet r before = left_after answer before (write_segments (loaded_segments sheet r) before)

-- and with its own answer
unfoldable pub load_columns : List ℕ → (r records : ℕ) → Columns → Columns
load_columns sheet r records before = columns_after (load_answer sheet r records before) sheet r before

-- the list of reach records afterwards: "an accepted loading fills its first entries from the sheet, one for each reach"
abbrev pub records_after : Outcome Loaded → List ℕ → List Reach → List Reach
records_after answer sheet before = left_after answer before (over (reaches sheet) before)

-- and with its own answer
unfoldable pub load_records : List ℕ → (r : ℕ) → List Reach → Columns → List Reach
load_records sheet r before columns = records_after (load_answer sheet r (length before) columns) sheet before
