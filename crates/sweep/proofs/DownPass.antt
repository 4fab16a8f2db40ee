-- The loop of the downward pass: what it has written before segment i, and what a turn asks and leaves.
use mathlib.Core.Path.{◌≡◌, refl, sym, ap, ◌∙◌}
use mathlib.Core.Bool.{Bool, true, false, cond}
use Prim.Native.Nat.{ℕ, zero, suc, ◌+◌, ◌<◌, ◌≤◌, zero-le}
use native.Mathlib.Numerals.{add-one}
use native.Mathlib.Omega.{arith}
use borrow.Author.Tests.{ltb-true}
use lib.Dec.{ltb}
use lib.ListN.{get_or, set}
use Rattle.model.specs.Ranges.{highest}
use Rattle.model.specs.Equations.{Figures, Pair}
use Rattle.model.specs.Sweep.{row_of, Passed, Above, under, pass, downward}
use Rattle.model.specs.State.{NumberSet, Columns, pair_at, pairs_of, State, figures_at, figures_of}
use Rattle.model.specs.Calls.{Working}
use Rattle.sweep_laws.specs.Stable.{p_above, y_above, Stable}
use Rattle.sweep_laws.proofs.Passes.{pass_same, kept}
use Rattle.segment.specs.Ready.{RowReady, SegmentReady}
use Rattle.sweep.specs.Step.{Ready, PassedOver}
use Rattle.segment.proofs.Bounds.{ready-fit}
use Rattle.sweep.proofs.Tables.{over-tab, Filled, filled-turn}
use Rattle.sweep.proofs.River.{above_at, channel_or0, standing, left_at, row_at, downward-tab}

-- the figures of segment i, as the loop reads them
abbrev pub figures_read : State → ℕ → Figures
figures_read x i = record { c = get_or x.channel i 0; z = get_or x.storage i 0; w = get_or x.sediment i 0 }

-- p and y that count above a segment
abbrev counted : Above → Passed
counted above = record { p = p_above above; y = y_above above }

-- segments 1 to i are done: `above` and d are what stands above the next
pub record Down (n : ℕ) (old : NumberSet) (new : Columns) (state : State) (working : Working) (u' i above : ℕ) (d : Passed) (after : Working) : Type 0 where
  pub reached : i ≤ n
  pub is_above : above ≡ above_at state.upstream (figures_at state) i
  pub is_d : d ≡ counted (standing (row_at n old new state) u' i)
  pub stable : Stable (standing (row_at n old new state) u' i)
  pub in_p : Filled (λ j. (left_at (row_at n old new state) u' j).p) working.p i after.p
  pub in_y : Filled (λ j. (left_at (row_at n old new state) u' j).y) working.y i after.y

module _ {n : ℕ} {old : NumberSet} {new : Columns} {state : State} {working : Working} {u' : ℕ} (ready : Ready n old new state working u') where
  above_most : (i : ℕ) → i < n → above_at state.upstream (figures_at state) i ≤ highest
  above_most zero h = ready.most_u
  above_most (suc i) h = (ready.most i (omega arith)).c

  below-most : (i : ℕ) → channel_or0 n (figures_at state) i ≤ highest
  below-most i = go (ltb i n) refl
    where
      go : (t : Bool) → ltb i n ≡ t → cond t (figures_at state i).c 0 ≤ highest
      go true e = (ready.most i (ltb-true i n e)).c
      go false e = zero-le

  pub row-ready : (i : ℕ) → i < n → RowReady (pair_at old new i) (figures_at state i) (above_at state.upstream (figures_at state) i) (channel_or0 n (figures_at state) (suc i))
  row-ready i h = record { figures = record { accepted = ready.accepted i h; most = ready.most i h }; most_above = above_most i h; most_below = below-most (suc i) }

  module _ {i above below : ℕ} {x : Pair} {d : Passed} {after : Working} (h : i < n) (v : Down n old new state working u' i above d after)
      (q : x ≡ pair_at old new i) (b : below ≡ cond (ltb (i + 1) n) (get_or state.channel (i + 1) 0) 0) where
    pub down-ready : SegmentReady x (figures_read state i) above below d
    unfolding figures_at
    down-ready =
        let r = row-ready i h in
        record {
          ready = rw q (record { figures = r.figures; most_above = rw v.is_above r.most_above; most_below = rw (b, add-one i) r.most_below });
          stable = rw v.is_d (record { half = v.stable.half; whole = v.stable.whole });
        }

    row_same : row_of x above below (figures_read state i) ≡ row_at n old new state i
    unfolding figures_at
    row_same = rw (q, v.is_above, b, add-one i)

    pub down_turn : {d' : Passed} → d' ≡ pass (under d) (row_of x above below (figures_read state i)) →
        Down n old new state working u' (i + 1) (get_or state.channel i 0) d' (record { p = set after.p i d'.p; y = set after.y i d'.y })
    unfolding figures_at
    down_turn {d'} e =
        let row = row_at n old new state in
        let is : d' ≡ left_at row u' i = e ∙ ap (pass (under d)) row_same ∙ rw v.is_d (sym (pass_same (standing row u' i) (row i))) in
        rw (add-one i) (record {
          reached = h;
          is_above = refl;
          is_d = is;
          stable = (kept (standing row u' i) (row i) (ready-fit (row-ready i h)) v.stable).stable;
          in_p = rw (add-one i) at (filled-turn (omega (arith, ready.p_long)) v.in_p (ap (λ (d : Passed). d.p) is));
          in_y = rw (add-one i) at (filled-turn (omega (arith, ready.y_long)) v.in_y (ap (λ (d : Passed). d.y) is));
        })

  pub down-end : {i above : ℕ} {d : Passed} {after : Working} → n ≤ i → Down n old new state working u' i above d after →
      PassedOver (downward state.upstream u' (pairs_of n old new) (figures_of n state)) working after
  down-end {i} h v =
      let e : i ≡ n = omega (arith, v.reached) in
      rw (downward-tab n old new state u')
      (record {
        of_p = (rw e at v.in_p.is) ∙ sym (over-tab (λ (x : Passed). x.p) n _ working.p);
        of_y = (rw e at v.in_y.is) ∙ sym (over-tab (λ (x : Passed). x.y) n _ working.y);
      })
