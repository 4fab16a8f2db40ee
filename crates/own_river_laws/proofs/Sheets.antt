-- What a sheet that passed 1 to 12 is known for: its counts, M, print interval, gauges and U are in range, and of every flow a step accepts the
-- numbers on either side.
use mathlib.Core.Path.{◌≡◌, refl}
use mathlib.Core.Bool.{Bool, true, false, cond, ◌||◌}
use mathlib.Core.List.{List, ◌∷◌}
use Prim.Native.Nat.{ℕ, zero, suc, ◌+◌, ◌<◌, ◌≤◌}
use native.Mathlib.Omega.{arith}
use borrow.Author.Tests.{eq-eqb}
use lib.Dec.{eqb, ltb, lit<}
use lib.ListN.{length, get_or}
use Rattle.lists.proofs.Tab.{length-tab}
use Rattle.lists.proofs.Shorter.{neither}
use Rattle.model.specs.Ranges.{◌to◌, Section, reach_section, row_section, outside, concentration, header_ranges, highest, most_steps, most_segments}
use Rattle.model.specs.Sheet.{edition, sections, field, section_end, sections_end, count_at, reach_count_at, row_count_at, steps_m, interval, header, row_count, gauge_count, row_starts, row_concentrations, gauges, flow_row_count, segment_count}
use Rattle.model.specs.Flow.{last_begun, course_of, flow_in_force}
use Rattle.model.specs.HalfStep.{site_at, numbers, loaded_segment}
use Rattle.model.specs.Refusals.{nothing, row, accepted, Finding, passes, fails, first}
use Rattle.model.specs.Load.{walk, starts_late, row_fault, gauge_fault, sheet_tests, river_tests}
use Rattle.model.specs.Upstream.{upstream_at, upstream_tests, upstream_answer}
use Rattle.model.specs.Calls.{numbers_fault, segment_fault}
use Rattle.model.specs.Runs.{sheet_pair, sheet_pairs}
use Rattle.model.specs.OwnRiver.{rows_upstream}
use Rattle.model.proofs.Ranges.{inside}
use Rattle.model.proofs.FlowRows.{last-begun, in-force-known}
use Rattle.model.proofs.Refusals.{fails-passes, all_pass, first-both, each-clear, test-clear}
use Rattle.sweep_laws.specs.Accepted.{Accepted}
use Rattle.sweep_laws.proofs.Accepted.{All, all-tab, sums}
use Rattle.loading_laws.proofs.Sheets.{field-inside, counted, right, course-length}
use Rattle.loading_laws.proofs.Loaded.{last-g, segment-passes, sums-pass}

-- the walk behind a section that it accepts
walk-on : (sheet : List ℕ) (at : ℕ) (section : Section) (more : List Section) → walk sheet at (section ∷ more) ≡ passes →
    walk sheet (section_end sheet at section) more ≡ passes
unfolding walk
walk-on sheet at section more e =
    go (ltb (length sheet) (at + 4)) (outside section.counts (field sheet at)) (ltb (length sheet) (section_end sheet at section)) _ e
  where
    go : (a b c : Bool) (rest : Finding) → cond a (fails 2 nothing) (cond b (fails 3 nothing) (cond c (fails 2 nothing) rest)) ≡ passes → rest ≡ passes
    go true b c rest e = fails-passes e
    go false true c rest e = fails-passes e
    go false false true rest e = fails-passes e
    go false false false rest e = e

-- 8 looks at a row's concentration
row-range : (M : ℕ) (starts concentrations : List ℕ) (j : ℕ) → row_fault M starts concentrations j ≡ false →
    outside concentration (get_or concentrations j 0) ≡ false
unfolding row_fault
row-range M starts concentrations j e = (neither (starts_late starts j || ltb M (get_or starts j 0)) _ e).1

-- and 9 at a gauge's segment number
gauge-range : (n : ℕ) (gauges : List ℕ) (j : ℕ) → gauge_fault n gauges j ≡ false → (1 ≤ get_or gauges j 0) × (get_or gauges j 0 ≤ n)
unfolding gauge_fault
gauge-range n gauges j e = inside (1 to n) _ (neither (outside (1 to n) (get_or gauges j 0)) _ e).0

-- the last row begun has a concentration in range where all have
begun-range : (concentrations : List ℕ) (r : ℕ) → r ≤ length concentrations →
    ((i : ℕ) → i < length concentrations → outside concentration (get_or concentrations i 0) ≡ false) →
    outside concentration (get_or (0 ∷ concentrations) r 0) ≡ false
unfolding outside
begun-range concentrations zero h all = refl
begun-range concentrations (suc i) h all = all i (omega arith)

module _ (sheet : List ℕ) (front : first (river_tests sheet) ≡ passes) where
  own-tests : first (sheet_tests sheet) ≡ passes
  own-tests = (first-both (sheet_tests sheet) _ front).0

  -- ---- counts

  pub some-segments : 1 ≤ segment_count sheet
  some-segments = (right sheet own-tests).some

  pub most-segments : segment_count sheet ≤ most_segments
  most-segments = (right sheet own-tests).most

  -- 3, of the rows and of the gauges
  rows-counted : outside row_section.counts (row_count sheet) ≡ false
  unfolding sheet_tests sections count_at sections_end
  rows-counted =
      let t = all_pass (sheet_tests sheet) own-tests in
      counted sheet (row_count_at sheet) row_section _ (walk-on sheet reach_count_at (reach_section (edition sheet)) _ t.1.0)

  -- ---- M and the print interval

  pub most-steps : steps_m sheet ≤ most_steps
  unfolding sheet_tests
  most-steps =
      let clear = test-clear 5 _ (all_pass (sheet_tests sheet) own-tests).1.1.1.0 in
      (inside (1 to most_steps) (steps_m sheet) (field-inside (header_ranges (steps_m sheet)) (header sheet) 2 clear (lit< tt) (lit< tt))).1

  pub interval-some : 1 ≤ interval sheet
  unfolding sheet_tests
  interval-some =
      let clear = test-clear 5 _ (all_pass (sheet_tests sheet) own-tests).1.1.1.0 in
      (inside (1 to steps_m sheet) (interval sheet) (field-inside (header_ranges (steps_m sheet)) (header sheet) 3 clear (lit< tt) (lit< tt))).0

  -- ---- the gauges

  gauge-inside : (j : ℕ) → j < gauge_count sheet → (1 ≤ get_or (gauges sheet) j 0) × (get_or (gauges sheet) j 0 ≤ segment_count sheet)
  unfolding sheet_tests
  gauge-inside j h =
      let clear = each-clear 9 row (gauge_count sheet) (gauge_fault (segment_count sheet) (gauges sheet))
      (all_pass (sheet_tests sheet) own-tests).1.1.1.1.1.1.1.0 in
      gauge-range (segment_count sheet) (gauges sheet) j (clear j h)

  pub gauge-first : (j : ℕ) → j < gauge_count sheet → 1 ≤ get_or (gauges sheet) j 0
  gauge-first j h = (gauge-inside j h).0

  pub gauge-last : (j : ℕ) → j < gauge_count sheet → get_or (gauges sheet) j 0 ≤ segment_count sheet
  gauge-last j h = (gauge-inside j h).1

  -- ---- the rows' U

  pub rows-range : (j : ℕ) → outside concentration (rows_upstream sheet j) ≡ false
  unfolding sheet_tests rows_upstream upstream_at row_starts row_concentrations
  rows-range j =
      let clear = each-clear 8 row (row_count sheet) (row_fault (steps_m sheet) (row_starts sheet) (row_concentrations sheet))
      (all_pass (sheet_tests sheet) own-tests).1.1.1.1.1.1.0 in
      let starts : length (row_starts sheet) ≡ row_count sheet = length-tab _ 0 (row_count sheet) in
      let long : length (row_concentrations sheet) ≡ row_count sheet = length-tab _ 0 (row_count sheet) in
      let begun = (last-begun j (λ i. get_or (row_starts sheet) i 0) (length (row_starts sheet))).known in
      begun-range (row_concentrations sheet) (last_begun j (λ i. get_or (row_starts sheet) i 0) (length (row_starts sheet))) (omega (arith, begun, starts, long))
      (λ i h. row-range (steps_m sheet) (row_starts sheet) (row_concentrations sheet) i (clear i (omega (arith, h, long))))

  pub rows-most : (j : ℕ) → rows_upstream sheet j ≤ highest
  rows-most j = (inside concentration _ (rows-range j)).1

  -- the call that finds it on them
  pub rows-found : (j : ℕ) → upstream_answer (steps_m sheet) j (row_starts sheet) (row_concentrations sheet) ≡ accepted (rows_upstream sheet j)
  unfolding sheet_tests upstream_answer upstream_tests rows_upstream row_starts row_concentrations
  rows-found j =
      let t = all_pass (sheet_tests sheet) own-tests in
      let starts : length (row_starts sheet) ≡ row_count sheet = length-tab _ 0 (row_count sheet) in
      let long : length (row_concentrations sheet) ≡ row_count sheet = length-tab _ 0 (row_count sheet) in
      rw (starts, long, rows-counted, eq-eqb (row_count sheet) (row_count sheet) refl, t.1.1.1.1.1.1.0)

  -- ---- every flow

  pub start-most : (r i : ℕ) → i < segment_count sheet → (loaded_segment (course_of sheet r) i).start ≤ highest
  unfolding loaded_segment
  start-most r i h = (inside concentration _ ((right sheet own-tests).fit r i h).start).1

  module _ (r : ℕ) (known : r ≤ flow_row_count sheet) (i : ℕ) (h : i < segment_count sheet) where
    -- 14, of its numbers alone, as on a step's old side
    pub numbers-clear : numbers_fault (eqb (suc i) (segment_count sheet)) (numbers (site_at (course_of sheet r) i)) ≡ false
    unfolding numbers_fault
    numbers-clear = rw (sums-pass sheet r front known i h, last-g (course_of sheet r) (segment_count sheet) i (course-length sheet r))

    -- and of all that a loading leaves
    pub segment-clear : segment_fault (eqb (suc i) (segment_count sheet)) (loaded_segment (course_of sheet r) i) ≡ false
    segment-clear = segment-passes (course_of sheet r) (segment_count sheet) i (course-length sheet r) (sums-pass sheet r front known i h) ((right sheet own-tests).fit r i h)

  -- ---- the pairs of every step

  pub pair-accepted : (n i : ℕ) → i < segment_count sheet → Accepted (sheet_pair sheet n i)
  pair-accepted n i h =
      let fit = (right sheet own-tests).fit (flow_in_force sheet (suc n)) i h in
      record {
        old = sums _ _ (numbers-clear (flow_in_force sheet n) (in-force-known sheet n) i h);
        new = sums _ _ (numbers-clear (flow_in_force sheet (suc n)) (in-force-known sheet (suc n)) i h);
        cl = (inside concentration _ fit.cl).1;
        cb = (inside concentration _ fit.cb).1;
      }

  pub pairs-accepted : (n : ℕ) → All Accepted (sheet_pairs sheet n)
  pairs-accepted n = all-tab 0 (segment_count sheet) (sheet_pair sheet n) (λ i a b. pair-accepted n i (omega arith))
