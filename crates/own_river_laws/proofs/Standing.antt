-- A state that the sheet's own river may stand in: one that passes 13 and 14, as every step from it leads to one again.
use mathlib.Core.Path.{◌≡◌}
use mathlib.Core.Bool.{false, ◌||◌}
use mathlib.Core.List.{List, map}
use Prim.Native.Nat.{ℕ, ◌<◌, ◌≤◌, zero-le}
use native.Mathlib.Omega.{arith}
use borrow.Author.Tests.{le-ltb}
use lib.ListN.{length}
use Rattle.lists.specs.Lists.{any_shorter}
use Rattle.lists.proofs.Over.{over-long}
use Rattle.lists.proofs.Shorter.{neither, all-long, none-shorter}
use Rattle.model.specs.Ranges.{outside, concentration, highest}
use Rattle.model.specs.Sheet.{segment_count}
use Rattle.model.specs.Equations.{Figures}
use Rattle.model.specs.State.{State, state_lists, figures_at, figures_of, write_figures}
use Rattle.model.specs.Refusals.{passes, first}
use Rattle.model.specs.Load.{river_tests}
use Rattle.model.specs.Calls.{figure_fault, held_fault}
use Rattle.model.specs.OwnRiver.{own_step}
use Rattle.model.proofs.Ranges.{inside}
use Rattle.model.proofs.ReadBack.{read_back}
use Rattle.sweep_laws.specs.Accepted.{AtMost}
use Rattle.sweep_laws.proofs.Accepted.{All, all-tab, all-at, stepped-most}
use Rattle.own_river_laws.proofs.Ahead.{step-length}
use Rattle.own_river_laws.proofs.Sheets.{pairs-accepted}

-- every figure and U in range, and lists of an entry for each segment or more
pub record Standing (sheet : List ℕ) (state : State) : Type 0 where
  pub figures : All (AtMost highest) (figures_of (segment_count sheet) state)
  pub upstream : outside concentration state.upstream ≡ false
  pub long : any_shorter (segment_count sheet) (state_lists state) ≡ false

-- ---- figures in range

-- a concentration within its limit is in range
pub in_range : (x : ℕ) → x ≤ highest → outside concentration x ≡ false
unfolding outside
in_range x h = rw (le-ltb x 0 zero-le, le-ltb highest x h)

-- 14, of a segment's figures
pub figure-clear : (f : Figures) → AtMost highest f → figure_fault f ≡ false
unfolding figure_fault
figure-clear f most = rw (in_range f.c most.c, in_range f.z most.z, in_range f.w most.w)

-- and the other way
pub figure-most : (f : Figures) → figure_fault f ≡ false → AtMost highest f
unfolding figure_fault
figure-most f e =
    let a = neither (outside concentration f.c || outside concentration f.z) _ e in
    let b = neither (outside concentration f.c) _ a.0 in
    record { c = (inside concentration _ b.0).1; z = (inside concentration _ b.1).1; w = (inside concentration _ a.1).1 }

-- ---- such a state

-- figures written over the state's lists leave them as long, or longer
long-written : (n : ℕ) (fs : List Figures) (u steps : ℕ) (before : State) → any_shorter n (state_lists before) ≡ false →
    any_shorter n (state_lists (write_figures fs u steps before)) ≡ false
unfolding write_figures
long-written n fs u steps before e =
    let h = all-long n (state_lists before) e in
    none-shorter n _ (
      omega (arith, h.0, over-long (map (λ x. x.c) fs) before.channel),
      (
        omega (arith, h.1.0, over-long (map (λ x. x.z) fs) before.storage),
        (omega (arith, h.1.1.0, over-long (map (λ x. x.w) fs) before.sediment), tt),
      ),
    )

-- figures in range, written over lists that are long enough, with a U in range
pub stands-written : (sheet : List ℕ) (fs : List Figures) (u steps : ℕ) (before : State) → length fs ≡ segment_count sheet → All (AtMost highest) fs →
    outside concentration u ≡ false → any_shorter (segment_count sheet) (state_lists before) ≡ false → Standing sheet (write_figures fs u steps before)
unfolding write_figures
stands-written sheet fs u steps before many most range long = record {
  figures = rw (read_back (segment_count sheet) fs u steps before many) most;
  upstream = range;
  long = long-written (segment_count sheet) fs u steps before long;
}

-- a state that passes 13 and 14
pub stands-tested : (sheet : List ℕ) (state : State) → any_shorter (segment_count sheet) (state_lists state) ≡ false →
    ((i : ℕ) → i < segment_count sheet → figure_fault (figures_at state i) ≡ false) → held_fault state ≡ false → Standing sheet state
unfolding held_fault
stands-tested sheet state long figures held = record {
  figures = all-tab 0 (segment_count sheet) (figures_at state) (λ i a b. figure-most (figures_at state i) (figures i (omega arith)));
  upstream = (neither (outside concentration state.upstream) _ held).0;
  long = long;
}

-- segment i of it
pub stands_at : (sheet : List ℕ) (state : State) → Standing sheet state → (i : ℕ) → i < segment_count sheet → AtMost highest (figures_at state i)
stands_at sheet state stands i h = all-at 0 (segment_count sheet) (figures_at state) stands.figures i (omega arith) (omega arith)

-- the sheet's own step leads to such a state again
pub step-stands : (sheet : List ℕ) → first (river_tests sheet) ≡ passes → (state : State) → Standing sheet state → (u' : ℕ) →
    outside concentration u' ≡ false → Standing sheet (own_step sheet u' state)
unfolding own_step
step-stands sheet front state stands u' range =
    stands-written sheet _ _ _ state (step-length sheet u' state)
    (stepped-most state.upstream u' (pairs-accepted sheet front state.steps) stands.figures) range stands.long
