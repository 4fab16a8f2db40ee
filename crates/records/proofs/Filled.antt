-- A loop that fills the list of reach records leaves what `filled` says, and this is what the documents say of a loading and of an opening.
use mathlib.Core.Path.{◌≡◌, refl, sym, ap, ◌∙◌}
use mathlib.Core.Bool.{Bool, true, false, ◌||◌}
use mathlib.Core.List.{List, [], ◌∷◌, ◌++◌, map}
use Prim.Native.Nat.{ℕ, ◌+◌, ◌<◌, ◌≤◌, min}
use native.Mathlib.Nat.{zero-min, min-eq_left, min-le_right}
use native.Mathlib.Omega.{arith}
use borrow.Author.Tests.{ltb-true, ltb-false}
use lib.Dec.{ltb}
use lib.ListN.{length, set, length-map}
use lib.Seq.{set_out}
use Rattle.lists.specs.Lists.{tab, over, any_shorter}
use Rattle.lists.proofs.Shorter.{neither}
use Rattle.lists.proofs.Tab.{length-tab, map-tab}
use Rattle.lists.proofs.Over.{length_over, map-over, filling-turn}
use Rattle.model.specs.Sheet.{Reach, reach_count, flow_row_count, reach_on, reaches, segment_count}
use Rattle.model.specs.Ranges.{outside, concentration}
use Rattle.model.specs.Refusals.{Finding, passes, fails, test, first, answer, outcome_of}
use Rattle.model.specs.State.{Columns, column_lists}
use Rattle.model.specs.Load.{loaded, river_tests, list_tests, load_tests, load_answer, load_records, records_after}
use Rattle.model.specs.Highest.{blocks_fault}
use Rattle.model.specs.Pool.{Pool, shared_lists, room_fault, table_fault, shared_fault, open_tests, open_answer, open_records}
use Rattle.model.proofs.Refusals.{first-both, all_pass, test-clear}
use Rattle.terms.specs.Says.{reach_says}
use Rattle.terms.specs.declared.Reach as Record
use Rattle.records.specs.Records.{filled, fill_count}

-- the record in memory that document 01 calls this reach
abbrev pub as_record : Reach → Record.Reach
as_record x = record {
  segments = x.segments;
  dispersion = x.dispersion;
  area = x.area;
  area2 = x.area2;
  alpha = x.alpha;
  qin = x.qin;
  qout = x.qout;
  cl = x.cl;
  lambda = x.lambda;
  lambda2 = x.lambda2;
  lamhat = x.lamhat;
  lamhat2 = x.lamhat2;
  rho = x.rho;
  kd = x.kd;
  cb = x.cb;
  start = x.start;
}

module _ (sheet : List ℕ) (before : List Record.Reach) where
  -- the list once i entries are filled, as far as it reaches
  abbrev pub table : ℕ → List Record.Reach
  table i = over (tab 0 (min i (length before)) (λ j. as_record (reach_on sheet j))) before

  pub table-length : (i : ℕ) → length (table i) ≡ length before
  table-length i =
      length_over (tab 0 (min i (length before)) (λ j. as_record (reach_on sheet j))) before
      (rw (length-tab (λ j. as_record (reach_on sheet j)) 0 (min i (length before))) (min-le_right i (length before)))

  -- one entry more; past the end of the list nothing is put in
  pub table-next : (i : ℕ) (r : Record.Reach) → reach_says r ≡ reach_on sheet i → set (table i) i r ≡ table (i + 1)
  table-next i r e = go (ltb i (length before)) refl
    where
      go : (b : Bool) → ltb i (length before) ≡ b → set (table i) i r ≡ table (i + 1)
      go true lower =
          let h : i < length before = ltb-true i (length before) lower in
          let here : min i (length before) ≡ i = omega arith in
          let next : min (i + 1) (length before) ≡ i + 1 = omega arith in
          rw (here, next) (filling-turn {f = λ j. as_record (reach_on sheet j)} {before = before} {list = over (tab 0 i (λ j. as_record (reach_on sheet j))) before} (record { is = refl; long = length_over (tab 0 i (λ j. as_record (reach_on sheet j))) before (rw (length-tab (λ j. as_record (reach_on sheet j)) 0 i) (omega arith)) }) h (ap as_record e)).is
      go false higher =
          let h : length before ≤ i = ltb-false i (length before) higher in
          let same : min (i + 1) (length before) ≡ min i (length before) = omega arith in
          set_out (table i) i r (rw (table-length i) h) ∙ ap (λ n. over (tab 0 n (λ j. as_record (reach_on sheet j))) before) (sym same)

  -- and all of them
  pub table_filled : (count i : ℕ) → i ≡ count → map reach_says (table i) ≡ filled sheet count (map reach_says before)
  unfolding filled
  table_filled count i e =
      map-over reach_says (tab 0 (min i (length before)) (λ j. as_record (reach_on sheet j))) before
      ∙ rw (map-tab reach_says (λ j. as_record (reach_on sheet j)) 0 (min i (length before)), length-map before reach_says, e)

module _ (sheet : List ℕ) (row : ℕ) (before : List Reach) (columns : Columns) where
  -- where test 13 passes, the list has an entry for each reach
  enough : first (list_tests sheet row (length before) columns) ≡ passes → reach_count sheet ≤ length before
  unfolding list_tests
  enough e =
      let others = ltb (flow_row_count sheet) row || any_shorter (segment_count sheet) (column_lists columns) in
      let few = ltb (length before) (reach_count sheet) in
      ltb-false (length before) (reach_count sheet) (neither others few (test-clear 13 (others || few) (all_pass (list_tests sheet row (length before) columns) e).0)).1

  -- what is filled by the answer of a call, with test 13 among its tests, is what is said of that answer
  outcome-fills : (tests : List Finding) → (first tests ≡ passes → first (list_tests sheet row (length before) columns) ≡ passes) →
      filled sheet (fill_count (outcome_of tests (loaded sheet)) (reach_count sheet)) before ≡ records_after (outcome_of tests (loaded sheet)) sheet before
  unfolding filled reaches
  outcome-fills tests among = go (first tests) refl
    where
      go : (t : Finding) → first tests ≡ t →
          over (tab 0 (min (fill_count (answer t (loaded sheet)) (reach_count sheet)) (length before)) (reach_on sheet)) before ≡ records_after (answer t (loaded sheet)) sheet before
      go passes e = rw (min-eq_left (enough (among e)))
      go (fails number place) e = rw (zero-min (length before))

  -- a loading: document 01
  pub load-records : filled sheet (fill_count (load_answer sheet row (length before) columns) (reach_count sheet)) before ≡ load_records sheet row before columns
  unfolding load_records load_answer load_tests
  load-records = outcome-fills (load_tests sheet row (length before) columns) (λ e. (first-both (river_tests sheet) (list_tests sheet row (length before) columns) e).1)

  -- an opening: document 02, 3
  pub open-records : (pool : Pool) (number : ℕ) (highest : List ℕ) (u : ℕ) →
      filled sheet (fill_count (open_answer sheet row (length before) columns pool number highest u) (reach_count sheet)) before ≡ open_records sheet row before columns pool number highest u
  unfolding open_records open_answer open_tests
  open-records pool number highest u =
      let front = river_tests sheet ++ (test 17 (room_fault pool.table number (segment_count sheet)) ∷ test 18 (table_fault pool.table) ∷ []) in
      let lists = list_tests sheet row (length before) columns in
      let behind = test 13 (shared_fault (shared_lists pool) || blocks_fault (segment_count sheet) highest) ∷ test 14 (outside concentration u) ∷ [] in
      outcome-fills (open_tests sheet row (length before) columns pool number highest u) (λ e. (first-both front lists (first-both (front ++ lists) behind e).0).1)
