-- The loop of the upward pass: what it has written from segment i on, and what a turn asks and leaves.
use mathlib.Core.Path.{◌≡◌, sym, ap, ◌∙◌}
use Prim.Native.Nat.{ℕ, suc, ◌+◌, ◌-◌, ◌*◌, ◌<◌, ◌≤◌}
use native.Mathlib.Omega.{arith}
use lib.ListN.{get_or, set}
use Rattle.rounding.specs.Nearest.{S, nearest}
use Rattle.model.specs.Equations.{Figures, Pair}
use Rattle.model.specs.Sweep.{up, clamp, finish, new_figures}
use Rattle.model.specs.State.{NumberSet, Columns, pair_at, pairs_of, State, figures_at, figures_of}
use Rattle.model.specs.Calls.{Working}
use Rattle.segment.specs.Ready.{FiguresReady}
use Rattle.sweep.specs.Step.{passed_at, passed_of, UpReady, FiguresOver}
use Rattle.sweep.proofs.Tables.{over-tab, FilledFrom, from-here, from-turn, from_end}
use Rattle.sweep.proofs.River.{raised_at, raised-turn, finish-tab}

abbrev figures : (c z w : ℕ) → Figures
figures c z w = record { c = c; z = z; w = w }

-- the new figures of segment i
abbrev new_at : ℕ → NumberSet → Columns → State → Working → ℕ → Figures
new_at n old new state working i = new_figures (pair_at old new i) (figures_at state i) (clamp (raised_at (passed_at working) n i))

-- the segments from i on are done, and x is the uncut C' of segment i
pub record Up (n : ℕ) (old : NumberSet) (new : Columns) (state : State) (working : Working) (i x : ℕ) (after : State) : Type 0 where
  pub reached : i ≤ n
  pub is_x : x ≡ raised_at (passed_at working) n i
  pub most_x : x ≤ S
  pub in_channel : FilledFrom (λ j. (new_at n old new state working j).c) state.channel n i after.channel
  pub in_storage : FilledFrom (λ j. (new_at n old new state working j).z) state.storage n i after.storage
  pub in_sediment : FilledFrom (λ j. (new_at n old new state working j).w) state.sediment n i after.sediment

module _ {n : ℕ} {old : NumberSet} {new : Columns} {state : State} {working : Working} (ready : UpReady n old new state working) where
  module _ {i x : ℕ} {after : State} (pos : 0 < i) (v : Up n old new state working i x after) where
    -- the figures that a turn reads are the old ones
    here : figures (get_or after.channel (i - 1) 0) (get_or after.storage (i - 1) 0) (get_or after.sediment (i - 1) 0) ≡ figures_at state (i - 1)
    unfolding figures_at
    here =
        let less : i - 1 < i = omega arith in
        rw (from-here (i - 1) less v.reached ready.figures.channel v.in_channel, from-here (i - 1) less v.reached ready.figures.storage v.in_storage, from-here (i - 1) less v.reached ready.figures.sediment v.in_sediment)

    module _ {x₀ : Pair} (q : x₀ ≡ pair_at old new (i - 1)) where
      pub figures-ready : FiguresReady x₀ (figures (get_or after.channel (i - 1) 0) (get_or after.storage (i - 1) 0) (get_or after.sediment (i - 1) 0))
      figures-ready = rw (q, here) (ready.accepted (i - 1) (omega (arith, v.reached)))

      pub up_turn : {x' : ℕ} {f : Figures} → x' ≡ get_or working.y (i - 1) 0 + nearest (get_or working.p (i - 1) 0 * x) S → x' ≤ S →
          f ≡ new_figures x₀ (figures (get_or after.channel (i - 1) 0) (get_or after.storage (i - 1) 0) (get_or after.sediment (i - 1) 0)) (clamp x') →
          Up n old new state working (i - 1) x' (record {
            channel = set after.channel (i - 1) f.c;
            storage = set after.storage (i - 1) f.z;
            sediment = set after.sediment (i - 1) f.w;
            upstream = after.upstream;
            steps = after.steps;
          })
      up_turn {x'} {f} ex less ef =
          let up1 : suc (i - 1) ≡ i = omega arith in
          let is_x : x' ≡ raised_at (passed_at working) n (i - 1) = ex ∙ rw (raised-turn (passed_at working) n (i - 1) (omega (arith, v.reached)), up1, v.is_x) in
          let is : f ≡ new_at n old new state working (i - 1) = ef ∙ rw (q, here, is_x) in
          record {
            reached = omega (arith, v.reached);
            is_x = is_x;
            most_x = less;
            in_channel = from-turn i pos v.reached ready.figures.channel v.in_channel (ap (λ (f : Figures). f.c) is);
            in_storage = from-turn i pos v.reached ready.figures.storage v.in_storage (ap (λ (f : Figures). f.z) is);
            in_sediment = from-turn i pos v.reached ready.figures.sediment v.in_sediment (ap (λ (f : Figures). f.w) is);
          }

  pub up-end : {i x : ℕ} {after : State} → i ≤ 0 → Up n old new state working i x after →
      FiguresOver (finish (pairs_of n old new) (figures_of n state) (up (passed_of n working))) state after
  up-end {i} o v =
      let zero-i : i ≡ 0 = omega arith in
      rw (finish-tab (pair_at old new) (figures_at state) (passed_at working) n 0 n (omega arith))
      (record {
        of_channel = from_end zero-i v.in_channel ∙ sym (over-tab (λ (f : Figures). f.c) n _ state.channel);
        of_storage = from_end zero-i v.in_storage ∙ sym (over-tab (λ (f : Figures). f.z) n _ state.storage);
        of_sediment = from_end zero-i v.in_sediment ∙ sym (over-tab (λ (f : Figures). f.w) n _ state.sediment);
      })
