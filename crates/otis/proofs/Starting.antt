-- A start's outcome, from what its tests find.
use mathlib.Core.Path.{◌≡◌, sym}
use mathlib.Core.Bool.{◌||◌}
use mathlib.Core.List.{List, map, ◌++◌}
use Prim.Native.Nat.{ℕ, ◌≤◌}
use lib.ListN.{length, get_or}
use Rattle.lists.specs.Lists.{tab, over}
use native.Mathlib.Nat.{le_trans}
use Rattle.lists.proofs.Over.{over-long}
use Rattle.lists.proofs.Tab.{map-tab}
use Rattle.lists.proofs.Shorter.{neither}
use Rattle.model.specs.Ranges.{most_segments}
use Rattle.model.specs.Equations.{Figures}
use Rattle.model.specs.State.{Columns, column_lists, segment_at, segments_of, State, state_lists, write_figures}
use Rattle.model.specs.Refusals.{Place, accepted, refused, passes, fails, first}
use Rattle.model.specs.Highest.{block_count, highest_of, blocks_fault}
use Rattle.model.specs.Calls.{no_working, river_fault, start_tests, start_figures, start_left, start, call_result}
use Rattle.terms.specs.Lent.{state, LongFigures}
use Rattle.otis.specs.Outcomes.{result_with}
use Rattle.model.proofs.Refusals.{all_pass, test-clear}
use Rattle.model.proofs.Calls.{result-passes, result-fails}
use Rattle.blocks.proofs.Fault.{blocks-long}
use Rattle.calltests.proofs.RiverLaws.{counted, columns-long, figures-long}

module _ (n : ℕ) (x : Columns) (before : State) (lent : List ℕ) (u : ℕ) where
  -- the lists that it reads and writes have n entries, and an entry for each block
  pub record StartLong : Type 0 where
    pub few : n ≤ most_segments
    pub start : n ≤ length x.start
    pub figures : LongFigures n before.channel before.storage before.sediment
    pub highest : block_count n ≤ length lent

  pub start-long : first (start_tests n x before lent u) ≡ passes → StartLong
  unfolding start_tests
  start-long e =
      let lists = column_lists x ++ state_lists before in
      let both = neither (river_fault n lists) (blocks_fault n lent) (test-clear 13 (river_fault n lists || blocks_fault n lent) (all_pass (start_tests n x before lent u) e).0) in
      record {
        few = (counted n lists both.0).1;
        start = (columns-long n x (state_lists before) both.0).start;
        figures = figures-long n x before.channel before.storage before.sediment both.0;
        highest = blocks-long n lent both.1;
      }

  -- and still have when the channel figures are written
  pub start-filled : first (start_tests n x before lent u) ≡ passes → (f : ℕ → ℕ) (c : List ℕ) → c ≡ over (tab 0 n f) before.channel →
      (n ≤ most_segments) × (n ≤ length c) × (block_count n ≤ length lent)
  start-filled e f c p =
      let long = start-long e in
      (long.few, rw p (le_trans long.figures.channel (over-long (tab 0 n f) before.channel)), long.highest)

  -- the figure of each segment
  start-list : (f : Figures → ℕ) → map f (map start_figures (segments_of n x)) ≡ tab 0 n (λ i. f (start_figures (segment_at x i)))
  start-list f = rw (map-tab start_figures (segment_at x) 0 n) (map-tab f (λ i. start_figures (segment_at x i)) 0 n)

  pub start-accepted : (c z w left : List ℕ) → first (start_tests n x before lent u) ≡ passes →
      c ≡ over (tab 0 n (λ i. get_or x.start i 0)) before.channel → z ≡ over (tab 0 n (λ i. get_or x.start i 0)) before.storage →
      w ≡ over (tab 0 n (λ i. get_or x.start i 0)) before.sediment → left ≡ over (highest_of n c) lent →
      result_with (accepted (record { upstream = u; steps = 0 })) (state c z w u 0) left no_working ≡ call_result n before (start x lent u)
  unfolding start_left segment_at write_figures
  start-accepted c z w left e p q r t = rw (
    result-passes n before (start x lent u) e,
    t,
    p,
    q,
    r,
    start-list (λ f. f.c),
    start-list (λ f. f.z),
    start-list (λ f. f.w),
  )

  pub start-refused : (number : ℕ) (place : Place) → first (start_tests n x before lent u) ≡ fails number place →
      result_with (refused number place) before lent no_working ≡ call_result n before (start x lent u)
  start-refused number place e = sym (result-fails n before (start x lent u) e)
