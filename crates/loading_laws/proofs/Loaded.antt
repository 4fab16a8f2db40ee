-- A river just loaded passes the tests of a start: what 13 and 14 look at has passed 3, 6, 7 and 12. And its lists are what a call is to be lent.
use mathlib.Core.Path.{◌≡◌, refl, ap, ◌∙◌}
use mathlib.Core.Bool.{Bool, true, false, not, cond, ◌&&◌, ◌||◌}
use mathlib.Core.List.{List, ◌++◌, map}
use Prim.Native.Nat.{ℕ, suc, ◌<◌, ◌≤◌}
use native.Mathlib.Omega.{arith}
use borrow.Author.Tests.{ltb-false, le-ltb}
use lib.Dec.{eqb, ltb}
use lib.ListN.{length}
use Rattle.lists.specs.Lists.{over, any_shorter}
use Rattle.lists.proofs.Lowest.{lowest-end}
use Rattle.lists.proofs.Shorter.{neither, none-shorter, shorter-both}
use Rattle.rounding.specs.Nearest.{parts}
use Rattle.rounding.proofs.Laws.{nearest-none}
use Rattle.model.specs.Ranges.{outside, concentration, most_kd, most_segments}
use Rattle.model.specs.Sheet.{reach_count, flow_row_count, segment_count}
use Rattle.model.specs.Flow.{Course, course_of, flow_in_force, reach_at}
use Rattle.model.specs.HalfStep.{site_at, fractions, numbers, Segment, loaded_segment}
use Rattle.model.specs.State.{Columns, column_lists, State, state_lists, loaded_segments, write_segments}
use Rattle.model.specs.Refusals.{segment, accepted, passes, test_each, first}
use Rattle.model.specs.Load.{sum_fault, sheet_tests, course_tests, river_tests, list_tests, load_tests, Loaded, loaded, load_answer, load_columns}
use Rattle.model.specs.Highest.{blocks_fault}
use Rattle.model.specs.Calls.{river_fault, numbers_fault, segment_fault, start_fault, start_tests}
use Rattle.model.specs.Runs.{OwnLists, LoadedFor, PairAsLoaded}
use Rattle.model.specs.Claim.{LeftFor, LoadedLists}
use Rattle.model.proofs.FlowRows.{in-force-known}
use Rattle.model.proofs.Refusals.{all_pass, first_rest, first-both, flows-clear, test-clear, each-clear, each-passes, outcome-passes, accepted-passes, accepted-values}
use Rattle.loading_laws.proofs.Sheets.{FitReach, right, course-length}
use Rattle.loading_laws.proofs.AsLoaded.{written-long, segments-written, segment-as-loaded, set-as-loaded}

-- ---- what a start looks at

-- the last g is 0
pub last-g : (course : Course) (n i : ℕ) → length course.river ≡ n → (eqb (suc i) n && not (eqb (numbers (site_at course i)).g 0)) ≡ false
unfolding numbers fractions site_at
last-g course n i e = rw (← e) (go (eqb (suc i) (length course.river)) _ _)
  where
    go : (t : Bool) (g d : ℕ) → (t && not (eqb (parts (cond t 0 g) d) 0)) ≡ false
    go true g d = rw (nearest-none d)
    go false g d = refl

-- 14, of a segment whose reach is fit and whose numbers passed 12
pub segment-passes : (course : Course) (n i : ℕ) → length course.river ≡ n → sum_fault (numbers (site_at course i)) ≡ false → FitReach (reach_at course i) →
    segment_fault (eqb (suc i) n) (loaded_segment course i) ≡ false
unfolding segment_fault numbers_fault loaded_segment
segment-passes course n i e sums fit = rw (sums, last-g course n i e, le-ltb most_kd (reach_at course i).kd fit.kd, fit.cl, fit.cb, fit.start)

-- ---- the river

-- the numbers of every segment passed 12, for every flow of the sheet
pub sums-pass : (sheet : List ℕ) (r : ℕ) → first (river_tests sheet) ≡ passes → r ≤ flow_row_count sheet → (i : ℕ) → i < segment_count sheet →
    sum_fault (numbers (site_at (course_of sheet r) i)) ≡ false
unfolding course_tests
sums-pass sheet r front known =
    let n = segment_count sheet in
    let passed = (first-both (sheet_tests sheet) (course_tests n (flow_row_count sheet) (course_of sheet)) front).1 in
    let flows = (all_pass (course_tests n (flow_row_count sheet) (course_of sheet)) passed).1.1.0 in
    each-clear 12 segment n (λ i. sum_fault (numbers (site_at (course_of sheet r) i)))
    (flows-clear (flow_row_count sheet) (λ r. test_each 12 segment n (λ i. sum_fault (numbers (site_at (course_of sheet r) i)))) flows r known)

module _ (sheet : List ℕ) (r records : ℕ) (columns : Columns) (front : first (river_tests sheet) ≡ passes)
    (lists : first (list_tests sheet r records columns) ≡ passes) where
  -- the flow is one of the sheet's
  pub known : r ≤ flow_row_count sheet
  unfolding list_tests
  known = ltb-false _ _ (neither _ _ (neither _ _ (test-clear 13 _ (all_pass (list_tests sheet r records columns) lists).0)).0).0

  -- the loading is accepted
  pub loads : load_answer sheet r records columns ≡ accepted (loaded sheet)
  unfolding load_answer load_tests
  loads = outcome-passes (load_tests sheet r records columns) (loaded sheet) (first_rest (river_tests sheet) (list_tests sheet r records columns) front ∙ lists)

  -- the lists that the loading leaves
  abbrev pub left_columns : Columns
  left_columns = write_segments (loaded_segments sheet r) columns

  -- they hold the sheet's segments for flow r
  pub left-loaded : LoadedFor sheet r (segment_count sheet) left_columns
  left-loaded = record { count = refl; segments = segments-written (loaded_segment (course_of sheet r)) (segment_count sheet) columns }

  -- no segment is at fault
  pub start-clear : (i : ℕ) → i < segment_count sheet → start_fault (segment_count sheet) left_columns i ≡ false
  unfolding start_fault
  start-clear i h =
      let ok = right sheet (first-both (sheet_tests sheet) _ front).0 in
      rw (segment-as-loaded left-loaded i h)
      (segment-passes (course_of sheet r) (segment_count sheet) i (course-length sheet r) (sums-pass sheet r front known i h) (ok.fit r i h))

  -- 13: they have an entry for each segment
  left-long : any_shorter (segment_count sheet) (column_lists left_columns) ≡ false
  unfolding write_segments any_shorter
  left-long =
      let n = segment_count sheet in
      let long : (part : Segment → ℕ) (list : List ℕ) → ltb (length (over (map part (loaded_segments sheet r)) list)) n ≡ false =
      λ part list. le-ltb (length (over (map part (loaded_segments sheet r)) list)) n (written-long (loaded_segment (course_of sheet r)) n part list) in
      simp long

  -- and so has a state of as many
  pub lists-long : (before : State) → OwnLists (segment_count sheet) before → any_shorter (segment_count sheet) (column_lists left_columns ++ state_lists before) ≡ false
  lists-long before own =
      let n = segment_count sheet in
      rw (shorter-both n (column_lists left_columns) (state_lists before), left-long)
      (none-shorter n (state_lists before) (omega (arith, own.channel), (omega (arith, own.storage), (omega (arith, own.sediment), tt))))

  -- 13, with the count of segments
  pub river-clear : (before : State) → OwnLists (segment_count sheet) before → river_fault (segment_count sheet) (column_lists left_columns ++ state_lists before) ≡ false
  unfolding river_fault outside
  river-clear before own =
      let n = segment_count sheet in
      let ok = right sheet (first-both (sheet_tests sheet) _ front).0 in
      rw (le-ltb n 1 ok.some, le-ltb most_segments n ok.most) (lists-long before own)

  -- a start on these lists, on any state of as many segments and on enough highest figures passes
  pub start-passes : (before : State) → OwnLists (segment_count sheet) before → (highest : List ℕ) → blocks_fault (segment_count sheet) highest ≡ false →
      (u : ℕ) → outside concentration u ≡ false → first (start_tests (segment_count sheet) left_columns before highest u) ≡ passes
  unfolding start_tests
  start-passes before own highest enough u e =
      let n = segment_count sheet in
      let low = lowest-end (start_fault n left_columns) n start-clear in
      rw (river-clear before own, enough, each-passes 14 segment n (start_fault n left_columns) (omega (arith, low)), e)

  -- what an accepted call is to be lent
  pub left-for : LeftFor sheet r (segment_count sheet) left_columns
  left-for = record { known = known; lists = left-loaded; set = set-as-loaded left-loaded; long = left-long }

  -- 13 of the lists passes for every other flow
  pub any-flow : (other : ℕ) → other ≤ flow_row_count sheet → first (list_tests sheet other records columns) ≡ passes
  unfolding list_tests
  any-flow other h =
      let clear = test-clear 13 _ (all_pass (list_tests sheet r records columns) lists).0 in
      let a = neither (ltb (flow_row_count sheet) r || any_shorter (segment_count sheet) (column_lists columns)) (ltb records (reach_count sheet)) clear in
      let b = neither (ltb (flow_row_count sheet) r) (any_shorter (segment_count sheet) (column_lists columns)) a.0 in
      rw (le-ltb (flow_row_count sheet) other h, b.1, a.1)

-- ---- a loading

-- what an accepted one has passed
pub record LoadPassed (sheet : List ℕ) (r records : ℕ) (columns : Columns) (v : Loaded) : Type 0 where
  pub front : first (river_tests sheet) ≡ passes
  pub lists : first (list_tests sheet r records columns) ≡ passes
  pub values : loaded sheet ≡ v

pub load-passed : {sheet : List ℕ} {r records : ℕ} {columns : Columns} {v : Loaded} → load_answer sheet r records columns ≡ accepted v →
    LoadPassed sheet r records columns v
unfolding load_answer load_tests
load-passed {sheet} {r} {records} {columns} {v} e =
    let tests = load_tests sheet r records columns in
    let passed = first-both (river_tests sheet) (list_tests sheet r records columns) (accepted-passes tests (loaded sheet) (rw e tt)) in
    record { front = passed.0; lists = passed.1; values = accepted-values tests (loaded sheet) v e }

-- with the values of an accepted loading or opening
pub with_values : {sheet : List ℕ} {r : ℕ} {columns : Columns} {v : Loaded} → loaded sheet ≡ v → LeftFor sheet r (segment_count sheet) columns →
    LeftFor sheet r v.segments columns
unfolding loaded
with_values e left = let count : segment_count _ ≡ _ = ap (λ (x : Loaded). x.segments) e in rw (← count) left

-- what is left for the flows in force at n and at n + 1 is the pair of the step between
pub pair_left : {sheet : List ℕ} {n m m' : ℕ} {old new : Columns} → LeftFor sheet (flow_in_force sheet n) m old → LeftFor sheet (flow_in_force sheet (suc n)) m' new →
    PairAsLoaded sheet n m' old.numbers new
pair_left before after = record {
  before = rw after.lists.count (rw before.lists.count at before.set);
  after = after.lists;
}

-- what an accepted loading leaves
pub loading-left : (sheet : List ℕ) (r records : ℕ) (columns : Columns) {v : Loaded} → load_answer sheet r records columns ≡ accepted v →
    LeftFor sheet r v.segments (load_columns sheet r records columns)
unfolding load_columns
loading-left sheet r records columns e =
    let passed = load-passed e in rw e (with_values passed.values (left-for sheet r records columns passed.front passed.lists))

-- an accepted one is accepted for every flow of the sheet
pub loading-flows : (sheet : List ℕ) (r records : ℕ) (columns : Columns) {v : Loaded} → load_answer sheet r records columns ≡ accepted v →
    (other : ℕ) → other ≤ flow_row_count sheet → load_answer sheet other records columns ≡ accepted v
loading-flows sheet r records columns e other h =
    let passed = load-passed e in
    loads sheet other records columns passed.front (any-flow sheet r records columns passed.front passed.lists other h) ∙ ap accepted passed.values

pub loaded-lists : LoadedLists
loaded-lists = record {
  left = λ sheet r records columns v e. loading-left sheet r (length records) columns e;
  flows = λ sheet r records columns v e other h. loading-flows sheet r (length records) columns e other h;
  pairs = λ sheet r r' records records' columns columns' v v' e e' n.
      let old = loading-flows sheet r (length records) columns e (flow_in_force sheet n) (in-force-known sheet n) in
      let new = loading-flows sheet r' (length records') columns' e' (flow_in_force sheet (suc n)) (in-force-known sheet (suc n)) in (
        old,
        new,
        pair_left (loading-left sheet (flow_in_force sheet n) (length records) columns old) (loading-left sheet (flow_in_force sheet (suc n)) (length records') columns' new),
      );
}
