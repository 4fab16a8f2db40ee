-- The two passes together: what the downward pass leaves is what the upward pass asks, and both are the step of document 01.
use mathlib.Core.Path.{◌≡◌, sym, ◌∙◌}
use mathlib.Core.List.{List, ◌++◌}
use Prim.Native.Nat.{ℕ, zero, suc, ◌<◌, ◌≤◌}
use native.Mathlib.Omega.{arith}
use lib.ListN.{length, drop, length-append}
use Rattle.lists.specs.Lists.{tab}
use Rattle.model.specs.Sweep.{Passed, downward, up, finish, stepped}
use Rattle.model.specs.State.{NumberSet, Columns, pairs_of, State, figures_at, figures_of}
use Rattle.model.specs.Calls.{Working}
use Rattle.sweep_laws.specs.Stable.{Stable}
use Rattle.sweep_laws.proofs.Passes.{top-stable, kept}
use Rattle.terms.specs.Lent.{state as state_of}
use Rattle.sweep.specs.Step.{passed_at, passed_of, Ready, UpReady, FiguresOver, PassedOver, Stepped}
use Rattle.segment.proofs.Bounds.{ready-fit}
use Rattle.sweep.proofs.Tables.{length-tab, tab-same, over-tab, get_or-table}
use Rattle.sweep.proofs.River.{standing, left_at, row_at, downward-tab}
use Rattle.sweep.proofs.DownPass.{row-ready}

module _ {n : ℕ} {old : NumberSet} {new : Columns} {state : State} {working : Working} {u' : ℕ} (ready : Ready n old new state working u') where
  -- what stands above every segment
  standing-stable : (i : ℕ) → i ≤ n → Stable (standing (row_at n old new state) u' i)
  standing-stable zero h = top-stable u' (omega (arith, ready.most_u'))
  standing-stable (suc i) h = (kept _ _ (ready-fit (row-ready ready i h)) (standing-stable i (omega arith))).stable

  module _ {passed : Working} (passes : PassedOver (downward state.upstream u' (pairs_of n old new) (figures_of n state)) working passed) where
    -- p and y as tables
    p-is : passed.p ≡ tab 0 n (λ i. (left_at (row_at n old new state) u' i).p) ++ drop n working.p
    p-is = (rw (downward-tab n old new state u') at passes.of_p) ∙ over-tab (λ (x : Passed). x.p) n _ working.p

    y-is : passed.y ≡ tab 0 n (λ i. (left_at (row_at n old new state) u' i).y) ++ drop n working.y
    y-is = (rw (downward-tab n old new state u') at passes.of_y) ∙ over-tab (λ (x : Passed). x.y) n _ working.y

    passed-at : (i : ℕ) → i < n → passed_at passed i ≡ left_at (row_at n old new state) u' i
    passed-at i h = rw (p-is, y-is, get_or-table (λ j. (left_at (row_at n old new state) u' j).p) n (drop n working.p) i h, get_or-table (λ j. (left_at (row_at n old new state) u' j).y) n (drop n working.y) i h)

    passed-all : passed_of n passed ≡ downward state.upstream u' (pairs_of n old new) (figures_of n state)
    passed-all = tab-same 0 n _ (left_at (row_at n old new state) u') (λ i h. passed-at i (omega arith)) ∙ sym (downward-tab n old new state u')

    pub up-ready : UpReady n old new (state_of state.channel state.storage state.sediment 0 0) passed
    unfolding figures_at
    up-ready = record {
      pairs = ready.pairs;
      figures = ready.figures;
      p_long = long _ _ p-is;
      y_long = long _ _ y-is;
      accepted = λ i h. record { accepted = ready.accepted i h; most = ready.most i h };
      stable = λ i h. rw (passed-at i h) (standing-stable (suc i) h);
    }
      where
        long : (f : ℕ → ℕ) (more : List ℕ) {l : List ℕ} → l ≡ tab 0 n f ++ more → n ≤ length l
        long f more e = rw e (omega (arith, length-append (tab 0 n f) more, length-tab 0 n f))

    -- U and the count take no part in the figures
    pub step_end : {after : State} →
        FiguresOver (finish (pairs_of n old new) (figures_of n (state_of state.channel state.storage state.sediment 0 0)) (up (passed_of n passed)))
        (state_of state.channel state.storage state.sediment 0 0) after →
        Stepped n old new state working u' after passed
    unfolding stepped figures_at
    step_end raised = record {
      state_after = rw (← passed-all) (record { of_channel = raised.of_channel; of_storage = raised.of_storage; of_sediment = raised.of_sediment });
      working_after = passes;
    }
