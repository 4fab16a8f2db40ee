-- Stepping ahead: the steps made so far, and that none of the states behind them is above the limit.
use mathlib.Core.Path.{◌≡◌, refl, sym, ap, ◌∙◌}
use mathlib.Core.Bool.{Bool, true, false}
use mathlib.Core.List.{List, map}
use Prim.Native.Nat.{ℕ, suc, ◌+◌, ◌<◌, ◌≤◌, min}
use native.Mathlib.Numerals.{add-one}
use native.Mathlib.Omega.{arith}
use borrow.Author.Tests.{eqb-true}
use lib.Dec.{eqb, ltb}
use lib.ListN.{length, length-map, get_or}
use Rattle.lists.specs.Lists.{over, lowest}
use Rattle.lists.proofs.Over.{over-again}
use Rattle.lists.proofs.Lowest.{Searching, searching-start, searching-miss, searching-hit, searching-end}
use Rattle.lists.proofs.Tab.{length-tab}
use Rattle.model.specs.Ranges.{most_steps, most_segments}
use Rattle.model.specs.Sheet.{steps_m, segment_count}
use Rattle.model.specs.Flow.{flow_in_force}
use Rattle.model.specs.HalfStep.{Segment}
use Rattle.model.specs.State.{Columns, loaded_segments, write_segments, State}
use Rattle.model.specs.Calls.{Working}
use Rattle.model.specs.OwnRiver.{rows_upstream, own_step, own_working, ahead, working_ahead}
use Rattle.own_river_laws.proofs.Ahead.{ahead-counts, ahead-last, working-last}
use Rattle.own_river_laws.proofs.Sheets.{most-steps, most-segments}
use Rattle.own_river.specs.Sides.{Sides, sides_of, filled, kept, held_at, sides_after}
use Rattle.own_river.specs.Ready.{Ready, Stepped}
use Rattle.own_river.proofs.Stepping.{SameLengths, step-lengths}
use Rattle.forecast.specs.Left.{Ran}

-- ---- the sides

module _ (sheet : List ℕ) (r s : ℕ) where
  -- one flow's segments written over another's
  written-again : (x : Columns) → write_segments (loaded_segments sheet r) (write_segments (loaded_segments sheet s) x) ≡ write_segments (loaded_segments sheet r) x
  unfolding write_segments
  written-again x =
      rw (
        again (λ y. y.numbers.e) x.numbers.e,
        again (λ y. y.numbers.g) x.numbers.g,
        again (λ y. y.numbers.l) x.numbers.l,
        again (λ y. y.numbers.a) x.numbers.a,
        again (λ y. y.numbers.b) x.numbers.b,
        again (λ y. y.numbers.k) x.numbers.k,
        again (λ y. y.numbers.ks) x.numbers.ks,
        again (λ y. y.numbers.h) x.numbers.h,
        again (λ y. y.numbers.m) x.numbers.m,
        again (λ y. y.numbers.s) x.numbers.s,
        again (λ y. y.cl) x.cl,
        again (λ y. y.cb) x.cb,
        again (λ y. y.kd) x.kd,
        again (λ y. y.start) x.start,
      )
    where
      many : (part : Segment → ℕ) (f : ℕ) → length (map part (loaded_segments sheet f)) ≡ segment_count sheet
      many part f = length-map (loaded_segments sheet f) part ∙ length-tab _ 0 (segment_count sheet)

      again : (part : Segment → ℕ) (list : List ℕ) →
          over (map part (loaded_segments sheet r)) (over (map part (loaded_segments sheet s)) list) ≡ over (map part (loaded_segments sheet r)) list
      again part list = over-again (map part (loaded_segments sheet r)) (map part (loaded_segments sheet s)) list (many part r ∙ sym (many part s))

-- behind the step from n to n + 1 they hold what that step's flow gives
sides-next : (sheet : List ℕ) (n : ℕ) (x : Sides) → sides_after sheet n (held_at sheet n x) ≡ held_at sheet (suc n) x
sides-next sheet n x = go (eqb (flow_in_force sheet n) (flow_in_force sheet (suc n))) refl
  where
    go : (t : Bool) → eqb (flow_in_force sheet n) (flow_in_force sheet (suc n)) ≡ t → sides_after sheet n (held_at sheet n x) ≡ held_at sheet (suc n) x
    go true e = let q = eqb-true (flow_in_force sheet n) (flow_in_force sheet (suc n)) e in rw e (ap (λ f. kept (filled sheet f x)) q)
    go false e = rw (e, written-again sheet (flow_in_force sheet (suc n)) (flow_in_force sheet n) x.new)

-- ---- the steps

-- the channel figure at place `at` is above the limit k steps on
abbrev pub above_at : List ℕ → State → (at limit k : ℕ) → Bool
above_at sheet from at limit k = ltb limit (get_or (ahead (rows_upstream sheet) sheet from k).channel at 0)

-- k steps are made, and none of the states before is above
pub record Going (sheet : List ℕ) (n : ℕ) (begun : List ℕ) (from : State) (room : Working) (at limit horizon : ℕ) (sides : List ℕ) (state : State) (working : Working) (k : ℕ) : Type 0 where
  pub is : state ≡ ahead (rows_upstream sheet) sheet from k
  pub ready : Ready sheet n sides state working
  pub working_is : working ≡ working_ahead (rows_upstream sheet) sheet from room k
  pub sides_are : (x : Sides) → sides_of begun ≡ held_at sheet from.steps x → sides_of sides ≡ held_at sheet state.steps x
  pub sides_long : length sides ≡ length begun
  pub lengths : SameLengths from state room working
  pub within : from.steps + horizon ≤ steps_m sheet
  pub searching : Searching (above_at sheet from at limit) (suc horizon) k

pub going_start : {sheet : List ℕ} {n : ℕ} {sides : List ℕ} {from : State} {working : Working} {at limit horizon : ℕ} → Ready sheet n sides from working →
    from.steps + horizon ≤ steps_m sheet → Going sheet n sides from working at limit horizon sides from working 0
unfolding ahead working_ahead
going_start ready h = record {
  is = refl;
  ready = ready;
  working_is = refl;
  sides_are = λ x q. q;
  sides_long = refl;
  lengths = record { channel = refl; storage = refl; sediment = refl; p = refl; y = refl };
  within = h;
  searching = searching-start;
}

module _ {sheet : List ℕ} {n : ℕ} {begun : List ℕ} {from : State} {room : Working} {at limit horizon : ℕ} {sides : List ℕ} {state : State} {working : Working} {k : ℕ}
    (g : Going sheet n begun from room at limit horizon sides state working k) where
  counted : state.steps ≡ from.steps + k
  counted = ap (λ (s : State). s.steps) g.is ∙ ahead-counts (rows_upstream sheet) sheet from k

  -- at most 1,024 segments
  pub few-segments : n ≤ most_segments
  few-segments = rw g.ready.of_sheet.count (most-segments sheet g.ready.of_sheet.passed)

  -- fewer than 100,000 steps are done
  pub below-most : k < horizon → state.steps < most_steps
  below-most h = omega (arith, counted, g.within, most-steps sheet g.ready.of_sheet.passed)

  -- the figure is the state's
  above_here : (b : Bool) → ltb limit (get_or state.channel at 0) ≡ b → above_at sheet from at limit k ≡ b
  above_here b e = ap (λ (s : State). ltb limit (get_or s.channel at 0)) (sym g.is) ∙ e

  ran : k ≡ min (lowest (suc horizon) (above_at sheet from at limit)) horizon → Ran sheet begun from room at limit horizon sides state working
  ran e = record {
    made = k;
    made_is = e;
    state_is = g.is;
    working_is = g.working_is;
    sides_are = g.sides_are;
    long = g.sides_long;
    channel_long = g.lengths.channel;
    storage_long = g.lengths.storage;
    sediment_long = g.lengths.sediment;
  }

  -- it is above: the steps end here
  pub going-above : k < horizon → ltb limit (get_or state.channel at 0) ≡ true → Ran sheet begun from room at limit horizon sides state working
  going-above h e = ran (let hit = searching-hit g.searching (omega arith) (above_here true e) in omega (arith, hit))

  -- one step more
  pub going-turn : {sides' : List ℕ} {state' : State} {working' : Working} {u' : ℕ} → k < horizon → ltb limit (get_or state.channel at 0) ≡ false →
      u' ≡ rows_upstream sheet (state.steps + 1) → Stepped sheet n sides state working u' sides' state' working' →
      Going sheet n begun from room at limit horizon sides' state' working' (k + 1)
  going-turn {sides'} {state'} {working'} {u'} h below u step =
      let same = step-lengths g.ready step in
      rw (add-one k)
      (record {
        is = on;
        ready = step.ready;
        working_is =
            step.working_passed ∙ ap (λ v. own_working sheet v state working) upstream ∙ ap (own_working sheet (rows_upstream sheet (suc state.steps)) state) g.working_is
            ∙ ap (λ (s : State). own_working sheet (rows_upstream sheet (suc s.steps)) s (working_ahead (rows_upstream sheet) sheet from room k)) g.is
            ∙ working-last (rows_upstream sheet) sheet from room k;
        sides_are = λ x q. step.sides_are.sides ∙ ap (sides_after sheet state.steps) (g.sides_are x q) ∙ sides-next sheet state.steps x ∙ ap (λ m. held_at sheet m x) (sym next);
        sides_long = step.sides_are.long ∙ g.sides_long;
        lengths = record {
          channel = same.channel ∙ g.lengths.channel;
          storage = same.storage ∙ g.lengths.storage;
          sediment = same.sediment ∙ g.lengths.sediment;
          p = same.p ∙ g.lengths.p;
          y = same.y ∙ g.lengths.y;
        };
        within = g.within;
        searching = rw (← add-one k) (searching-miss g.searching (omega arith) (above_here false below));
      })
    where
      upstream : u' ≡ rows_upstream sheet (suc state.steps)
      upstream = let one : state.steps + 1 ≡ suc state.steps = omega arith in u ∙ ap (rows_upstream sheet) one

      on : state' ≡ ahead (rows_upstream sheet) sheet from (suc k)
      on =
          step.state_is ∙ ap (λ v. own_step sheet v state) upstream
          ∙ ap (λ (s : State). own_step sheet (rows_upstream sheet (suc s.steps)) s) g.is ∙ sym (ahead-last (rows_upstream sheet) sheet from k)

      next : state'.steps ≡ suc state.steps
      next =
          ap (λ (s : State). s.steps) on ∙ ahead-counts (rows_upstream sheet) sheet from (suc k) ∙ omega (arith, counted)

  -- none is left
  pub going_end : k ≡ horizon → Ran sheet begun from room at limit horizon sides state working
  going_end e = ran (go (above_at sheet from at limit k) refl)
    where
      go : (t : Bool) → above_at sheet from at limit k ≡ t → k ≡ min (lowest (suc horizon) (above_at sheet from at limit)) horizon
      go true q = let hit = searching-hit g.searching (omega arith) q in omega (arith, hit)
      go false q = let none = searching-end (searching-miss g.searching (omega arith) q) (omega arith) in omega (arith, none)
