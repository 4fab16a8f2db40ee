-- What an accepted start or step leaves: highest figures that are true, of lists that pass the search's 13.
use mathlib.Core.Path.{◌≡◌, sym, ◌∙◌}
use mathlib.Core.Bool.{false, ◌||◌}
use mathlib.Core.List.{List, [], ◌∷◌, map}
use mathlib.Core.Option.{Option}
use Prim.Native.Nat.{ℕ, suc}
use native.Mathlib.Omega.{arith}
use borrow.Author.Tests.{ltb-false, le-ltb}
use lib.ListN.{length, length-append, length-map}
use Rattle.lists.specs.Lists.{over}
use Rattle.lists.proofs.Over.{length_over, get_or-over}
use Rattle.lists.proofs.Shorter.{neither, none-shorter}
use Rattle.lists.proofs.Tab.{length-tab, get_or-tab}
use Rattle.model.specs.Ranges.{◌to◌, outside, most_segments}
use Rattle.model.specs.Equations.{Figures}
use Rattle.model.specs.Sweep.{stepped}
use Rattle.model.specs.State.{NumberSet, Columns, segments_of, pairs_of, State, figures_at, figures_of, write_figures}
use Rattle.model.specs.Refusals.{Outcome, passes, test, first}
use Rattle.model.specs.Highest.{block_count, block_highest, highest_of, blocks_fault}
use Rattle.model.specs.Calls.{river_fault, start_figures, start_tests, start_left, Working, step_tests, step_left}
use Rattle.model.specs.Search.{search_tests, SearchAnswer, Tells}
use Rattle.model.proofs.Refusals.{all_pass, test-clear}
use Rattle.sweep_laws.proofs.Lengths.{length-stepped}
use Rattle.search_claim.proofs.Tells.{TrueHighest, tells}

-- lists as a start or a step leaves them
pub record AsLeft (n : ℕ) (channel highest : List ℕ) : Type 0 where
  pub river : river_fault n (channel ∷ []) ≡ false
  pub true_highest : TrueHighest n channel highest

-- test 13 of a search finds nothing in them
left-passes : {n : ℕ} {channel highest : List ℕ} → AsLeft n channel highest → first (search_tests n channel highest) ≡ passes
unfolding search_tests blocks_fault
left-passes {n} {channel} {highest} l = rw (l.river, le-ltb (length highest) (block_count n) l.true_highest.enough)

-- so a search of them tells whether a segment is above
pub left-tells : {n : ℕ} {channel highest : List ℕ} {limit : ℕ} {answer : Outcome (Option ℕ)} → AsLeft n channel highest →
    SearchAnswer n channel highest limit answer → Tells n channel limit answer
left-tells l s = tells (left-passes l) l.true_highest s

-- ---- figures written over the lists, and their highest over the highest figures

module _ (n : ℕ) (highest : List ℕ) (blocks : blocks_fault n highest ≡ false) where
  -- the highest figures are then true
  true-written : (channel : List ℕ) → TrueHighest n channel (over (highest_of n channel) highest)
  unfolding blocks_fault
  true-written channel =
      let many = length-tab (block_highest n channel) 0 (block_count n) in
      let long = ltb-false (length highest) (block_count n) blocks in
      record {
        enough = omega (arith, long, length_over (highest_of n channel) highest (omega (arith, many, long)));
        is = λ b h. get_or-over (highest_of n channel) highest b 0 (omega (arith, many)) ∙ get_or-tab (block_highest n channel) (block_count n) b 0 h;
      }

  -- a list that n figures were written over has as many
  river-written : (entries before : List ℕ) → length entries ≡ n → outside (1 to most_segments) n ≡ false → river_fault n (over entries before ∷ []) ≡ false
  unfolding river_fault
  river-written entries before many range =
      rw range (none-shorter n (over entries before ∷ []) (rw (length-append entries) (omega (arith, many)), tt))

  -- so it is of a state's
  written-left : (fs : List Figures) (u steps : ℕ) (state : State) → length fs ≡ n → outside (1 to most_segments) n ≡ false →
      AsLeft n (write_figures fs u steps state).channel (over (highest_of n (write_figures fs u steps state).channel) highest)
  unfolding write_figures
  written-left fs u steps state many range = record {
    river = river-written (map (λ f. f.c) fs) state.channel (length-map fs (λ f. f.c) ∙ many) range;
    true_highest = true-written (over (map (λ f. f.c) fs) state.channel);
  }

-- what 13 of an accepted start or step has looked at: the count of segments, and the highest figures
passed-13 : (n : ℕ) (lists : List (List ℕ)) (highest : List ℕ) → test 13 (river_fault n lists || blocks_fault n highest) ≡ passes →
    (outside (1 to most_segments) n ≡ false) × (blocks_fault n highest ≡ false)
unfolding river_fault
passed-13 n lists highest e =
    let both = neither (river_fault n lists) (blocks_fault n highest) (test-clear 13 _ e) in
    ((neither (outside (1 to most_segments) n) _ both.0).0, both.1)

-- ---- the calls

module _ (n : ℕ) (columns : Columns) (state : State) (highest : List ℕ) where
  -- an accepted start
  pub start_left_lem : (u : ℕ) → first (start_tests n columns state highest u) ≡ passes →
      let left = start_left n columns state highest u in AsLeft n left.state.channel left.highest
  unfolding start_tests start_left
  start_left_lem u e =
      let ok = passed-13 n _ highest (all_pass (start_tests n columns state highest u) e).0 in
      written-left n highest ok.1 (map start_figures (segments_of n columns)) u 0 state
      (length-map (segments_of n columns) start_figures ∙ length-tab _ 0 n) ok.0

  -- an accepted step
  pub step_left_lem : (old : NumberSet) (working : Working) (u' M : ℕ) → first (step_tests n old columns state highest working u' M) ≡ passes →
      let left = step_left n old columns state highest working u' in AsLeft n left.state.channel left.highest
  unfolding step_tests step_left
  step_left_lem old working u' M e =
      let ok = passed-13 n _ highest (all_pass (step_tests n old columns state highest working u' M) e).0 in
      let many : length (pairs_of n old columns) ≡ n = length-tab _ 0 n in
      written-left n highest ok.1 (stepped state.upstream u' (pairs_of n old columns) (figures_of n state)) u' (suc state.steps) state
      (length-stepped state.upstream u' (pairs_of n old columns) (figures_of n state) (length-tab (figures_at state) 0 n ∙ sym many) ∙ many) ok.0
