-- The next step of the sheet's own river: what the sweep is lent for it, what it leaves, and that the river is ready for the next.
use mathlib.Core.Path.{◌≡◌, refl, sym, ap, ◌∙◌}
use mathlib.Core.Bool.{Bool, true, false}
use mathlib.Core.List.{List, map}
use Prim.Native.Nat.{ℕ, suc, ◌+◌, ◌<◌, ◌≤◌}
use native.Mathlib.Numerals.{add-one}
use native.Mathlib.Omega.{arith}
use borrow.Author.Tests.{eqb-true}
use lib.Dec.{eqb}
use lib.ListN.{length, length-map, get_or}
use Rattle.lists.specs.Lists.{tab, over}
use Rattle.lists.proofs.Over.{length_over, over-long}
use Rattle.lists.proofs.Shorter.{all-long, none-shorter}
use Rattle.lists.proofs.Tab.{map-tab, tab-cong}
use Rattle.model.specs.Ranges.{highest, concentration}
use Rattle.model.specs.Sheet.{segment_count}
use Rattle.model.specs.Flow.{course_of, flow_in_force, reach_at}
use Rattle.model.specs.HalfStep.{Segment, loaded_segment}
use Rattle.model.specs.Equations.{Figures}
use Rattle.model.specs.Sweep.{Passed, downward, stepped}
use Rattle.model.specs.State.{NumberSet, Columns, loaded_segments, write_segments, segment_at, pairs_of, State, state_lists, figures_at, figures_of, write_figures}
use Rattle.model.specs.Calls.{Working, start_figures, step_left}
use Rattle.model.specs.Runs.{LoadedFor, PairAsLoaded, sheet_pairs}
use Rattle.model.specs.OwnRiver.{own_step, own_working}
use Rattle.model.proofs.Ranges.{inside}
use Rattle.sweep_laws.specs.Accepted.{AtMost}
use Rattle.sweep_laws.proofs.Accepted.{All, all-tab}
use Rattle.loading_laws.proofs.AsLoaded.{segments-written, set-as-loaded, pair-as-loaded, pairs-as-loaded}
use Rattle.own_river_laws.proofs.Sheets.{most-segments, pair-accepted, start-most}
use Rattle.own_river_laws.proofs.Ahead.{step-length, down-length, starts-length}
use Rattle.own_river_laws.proofs.Standing.{Standing, in_range, stands_at, stands-written, step-stands}
use Rattle.terms.specs.Lent.{LongFigures}
use Rattle.sweep.specs.Step as Sweep
use Rattle.own_river.specs.Sides.{width, sides_of, filled, kept, where_other, sides_for, SidesAre}
use Rattle.own_river.specs.Ready.{OfSheet, InForce, InRange, Held, Begun, Ready, Stepped}
use Rattle.own_river.proofs.Parts.{long-old, long-new}

-- ---- flows

-- the same flow or another
same-or-other : {A : Type 0} (a b : ℕ) → (eqb a b ≡ true → a ≡ b → A) → (eqb a b ≡ false → A) → A
same-or-other {A} a b same other = go (eqb a b) refl
  where
    go : (t : Bool) → eqb a b ≡ t → A
    go true e = same e (eqb-true a b e)
    go false e = other e

-- a set that is filled off the sheet is the flow's
filled-loaded : (sheet : List ℕ) (r n : ℕ) (before : Columns) → n ≡ segment_count sheet → LoadedFor sheet r n (write_segments (loaded_segments sheet r) before)
filled-loaded sheet r n before e = record { count = e; segments = rw e (segments-written (loaded_segment (course_of sheet r)) (segment_count sheet) before) }

module _ (sheet : List ℕ) (n steps : ℕ) (count : n ≡ segment_count sheet) (sides sides₁ : List ℕ) (force : InForce sheet n steps sides)
    (held : SidesAre (sides_for sheet steps (sides_of sides)) sides sides₁) where
  -- the pair of the step from n to n + 1 is lent
  pub pair-lent : PairAsLoaded sheet steps n (sides_of sides₁).old (sides_of sides₁).new
  pair-lent =
      rw held.sides (
      same-or-other (flow_in_force sheet steps) (flow_in_force sheet (suc steps))
      (λ e q. rw e (record { before = force.old; after = rw q at force.new }))
      (λ e. rw e (record { before = force.old; after = filled-loaded sheet (flow_in_force sheet (suc steps)) n (sides_of sides).new count })))

  -- behind it both sides hold the set of the flow in force there
  pub force-after : (sides₂ : List ℕ) → SidesAre (where_other (flow_in_force sheet steps) (flow_in_force sheet (suc steps)) kept (sides_of sides₁)) sides₁ sides₂ →
      InForce sheet n (suc steps) sides₂
  force-after sides₂ after =
      let wide : n ≤ width sides₂ = rw (after.long, held.long) force.wide in
      same-or-other (flow_in_force sheet steps) (flow_in_force sheet (suc steps))
      (λ e q. let same : sides_of sides₂ ≡ sides_of sides₁ = rw e at after.sides in
      record { wide = wide; old = rw (same, ← q) pair-lent.before; new = rw same pair-lent.after })
      (λ e. let keeps : sides_of sides₂ ≡ kept (sides_of sides₁) = rw e at after.sides in
      record { wide = wide; old = rw keeps (set-as-loaded pair-lent.after); new = rw keeps pair-lent.after })

-- ---- the state

-- the laws' words for a state in range, and back
standing : (sheet : List ℕ) (n : ℕ) (state : State) → n ≡ segment_count sheet → InRange n state → Standing sheet state
standing sheet n state e x = record {
  figures = rw e at (all-tab {P = AtMost highest} 0 n (figures_at state) (λ i a b. x.most i (omega arith)));
  upstream = in_range state.upstream x.upstream;
  long = rw e at (none-shorter n (state_lists state) (x.long.channel, (x.long.storage, (x.long.sediment, tt))));
}

ranging : (sheet : List ℕ) (n : ℕ) (state : State) → n ≡ segment_count sheet → Standing sheet state → InRange n state
ranging sheet n state e x =
    let long = all-long (segment_count sheet) (state_lists state) x.long in
    record {
      long = record { channel = rw e long.0; storage = rw e long.1.0; sediment = rw e long.1.1.0 };
      most = λ i h. stands_at sheet state x i (rw e at h);
      upstream = (inside concentration state.upstream x.upstream).1;
    }

-- ---- a step

-- the sweep looks at no count
abbrev pub lists_state : (channel storage sediment : List ℕ) → (upstream : ℕ) → State
lists_state channel storage sediment upstream = record { channel = channel; storage = storage; sediment = sediment; upstream = upstream; steps = 0 }

abbrev pub uncounted : State → State
uncounted x = lists_state x.channel x.storage x.sediment x.upstream

-- the flows of the step, by their numbers as they were read
module _ (sheet : List ℕ) (steps held flow : ℕ) (list list' : List ℕ) (e : held ≡ flow_in_force sheet steps) (f : flow ≡ flow_in_force sheet (steps + 1)) where
  pub for-step : SidesAre (where_other held flow (filled sheet flow) (sides_of list)) list list' → SidesAre (sides_for sheet steps (sides_of list)) list list'
  for-step h = rw (e, f, add-one steps) at h

  pub behind-step : SidesAre (where_other held flow kept (sides_of list)) list list' →
      SidesAre (where_other (flow_in_force sheet steps) (flow_in_force sheet (suc steps)) kept (sides_of list)) list list'
  behind-step h = rw (e, f, add-one steps) at h

module _ (sheet : List ℕ) (n : ℕ) (sides sides₁ : List ℕ) (state : State) (working : Working) (u' : ℕ) (ready : Ready sheet n sides state working)
    (held : SidesAre (sides_for sheet state.steps (sides_of sides)) sides sides₁) (most : u' ≤ highest) where
  lent : PairAsLoaded sheet state.steps n (sides_of sides₁).old (sides_of sides₁).new
  lent = pair-lent sheet n state.steps ready.of_sheet.count sides sides₁ ready.in_force held

  -- what the sweep asks
  pub sweep-ready : Sweep.Ready n (sides_of sides₁).old (sides_of sides₁).new (uncounted state) working u'
  unfolding figures_at
  sweep-ready =
      let wide : n ≤ width sides₁ = rw held.long ready.in_force.wide in
      let long = long-new sides₁ n wide in
      record {
        pairs = record {
          few = rw ready.of_sheet.count (most-segments sheet ready.of_sheet.passed);
          old_set = long-old sides₁ n wide;
          new_set = long.numbers;
          cl = long.cl;
          cb = long.cb;
        };
        figures = ready.in_range.long;
        p_long = ready.p_long;
        y_long = ready.y_long;
        accepted = λ i h.
            let l : i < segment_count sheet = rw ready.of_sheet.count at h in
            rw (pair-as-loaded (sides_of sides₁).old lent i l) (pair-accepted sheet ready.of_sheet.passed state.steps i l);
        most = ready.in_range.most;
        most_u = ready.in_range.upstream;
        most_u' = most;
      }

  -- the sweep has made the step
  pub own-step : (c z w p y sides₂ : List ℕ) →
      Sweep.Stepped n (sides_of sides₁).old (sides_of sides₁).new (uncounted state) working u' (lists_state c z w 0) (record { p = p; y = y }) →
      SidesAre (where_other (flow_in_force sheet state.steps) (flow_in_force sheet (suc state.steps)) kept (sides_of sides₁)) sides₁ sides₂ →
      Stepped sheet n sides state working u' sides₂ (record { channel = c; storage = z; sediment = w; upstream = u'; steps = state.steps + 1 })
      (record { p = p; y = y })
  unfolding own_step own_working write_figures step_left figures_at
  own-step c z w p y sides₂ swept after =
      let pairs = pairs-as-loaded (sides_of sides₁).old lent in
      let s = swept.state_after in
      let d = swept.working_after in
      let is : record { channel = c; storage = z; sediment = w; upstream = u'; steps = state.steps + 1 } ≡ own_step sheet u' state =
      rw (s.of_channel, s.of_storage, s.of_sediment, pairs, ready.of_sheet.count, add-one state.steps) in
      record {
        state_is = is;
        sides_are = record { sides = rw (← held.sides) after.sides; long = after.long ∙ held.long };
        working_is = rw (d.of_p, d.of_y, held.sides);
        working_passed = rw (d.of_p, d.of_y, pairs, ready.of_sheet.count);
        ready = record {
          of_sheet = ready.of_sheet;
          in_force = rw (add-one state.steps) (force-after sheet n state.steps ready.of_sheet.count sides sides₁ ready.in_force held sides₂ after);
          in_range = rw is (ranging sheet n (own_step sheet u' state) ready.of_sheet.count
              (step-stands sheet ready.of_sheet.passed state (standing sheet n state ready.of_sheet.count ready.in_range) u' (in_range u' most)));
          p_long = omega (arith, ap length d.of_p, over-long (map (λ x. x.p) (downward state.upstream u' (pairs_of n (sides_of sides₁).old (sides_of sides₁).new) (figures_of n state))) working.p, ready.p_long);
          y_long = omega (arith, ap length d.of_y, over-long (map (λ x. x.y) (downward state.upstream u' (pairs_of n (sides_of sides₁).old (sides_of sides₁).new) (figures_of n state))) working.y, ready.y_long);
        };
      }

-- ---- lengths

-- the lists of two states and their working lists are of the same lengths
pub record SameLengths (s t : State) (v w : Working) : Type 0 where
  pub channel : length t.channel ≡ length s.channel
  pub storage : length t.storage ≡ length s.storage
  pub sediment : length t.sediment ≡ length s.sediment
  pub p : length w.p ≡ length v.p
  pub y : length w.y ≡ length v.y

-- a step leaves them
pub step-lengths : {sheet : List ℕ} {n : ℕ} {sides sides' : List ℕ} {state state' : State} {working working' : Working} {u' : ℕ} →
    Ready sheet n sides state working → Stepped sheet n sides state working u' sides' state' working' → SameLengths state state' working working'
unfolding own_step own_working write_figures
step-lengths {sheet} {n} {sides} {state = state} {working = working} {u' = u'} ready step = record {
  channel = ap (λ (s : State). length s.channel) step.state_is ∙ written (λ x. x.c) state.channel (rw (← count) long.channel);
  storage = ap (λ (s : State). length s.storage) step.state_is ∙ written (λ x. x.z) state.storage (rw (← count) long.storage);
  sediment = ap (λ (s : State). length s.sediment) step.state_is ∙ written (λ x. x.w) state.sediment (rw (← count) long.sediment);
  p = ap (λ (w : Working). length w.p) step.working_passed ∙ passed (λ x. x.p) working.p ready.p_long;
  y = ap (λ (w : Working). length w.y) step.working_passed ∙ passed (λ x. x.y) working.y ready.y_long;
}
  where
    count : n ≡ segment_count sheet
    count = ready.of_sheet.count

    long : LongFigures n state.channel state.storage state.sediment
    long = ready.in_range.long

    new : List Figures
    new = stepped state.upstream u' (sheet_pairs sheet state.steps) (figures_of (segment_count sheet) state)

    written : (part : Figures → ℕ) (list : List ℕ) → segment_count sheet ≤ length list → length (over (map part new) list) ≡ length list
    written part list h = length_over (map part new) list (omega (arith, length-map new part, step-length sheet u' state))

    down : List Passed
    down = downward state.upstream u' (sheet_pairs sheet state.steps) (figures_of (segment_count sheet) state)

    many : length down ≡ n
    many = down-length sheet u' state ∙ sym count

    passed : (part : Passed → ℕ) (list : List ℕ) → n ≤ length list → length (over (map part down) list) ≡ length list
    passed part list h = length_over (map part down) list (omega (arith, length-map down part, many))

-- ---- the start

-- the start figures in lists as loaded are those of a start
starts : (sheet : List ℕ) (r n : ℕ) (columns : Columns) → LoadedFor sheet r n columns → (part : Figures → ℕ) → ((x : Segment) → x.start ≡ part (start_figures x)) →
    tab 0 n (λ i. get_or columns.start i 0) ≡ map part (map start_figures (loaded_segments sheet 0))
unfolding segment_at loaded_segment reach_at course_of
starts sheet r n columns loaded part same =
    sym (map-tab (λ (x : Segment). x.start) (segment_at columns) 0 n)
    ∙ ap (map (λ (x : Segment). x.start)) loaded.segments
    ∙ map-tab (λ (x : Segment). x.start) (loaded_segment (course_of sheet r)) 0 (segment_count sheet)
    ∙ tab-cong _ _ 0 (segment_count sheet) (λ i a b. one-start sheet r i ∙ same (loaded_segment (course_of sheet 0) i))
    ∙ sym (ap (map part) (map-tab start_figures (loaded_segment (course_of sheet 0)) 0 (segment_count sheet))
    ∙ map-tab part (λ i. start_figures (loaded_segment (course_of sheet 0) i)) 0 (segment_count sheet))
  where
    one-start : (sheet : List ℕ) (r i : ℕ) → (loaded_segment (course_of sheet r) i).start ≡ (loaded_segment (course_of sheet 0) i).start
    one-start sheet r i = refl

-- both sides filled off the sheet for this step; the flow by its number as it was read
pub held-sides : (sheet : List ℕ) (n steps flow : ℕ) (sides sides₁ sides₂ : List ℕ) → n ≡ segment_count sheet → n ≤ width sides → flow ≡ flow_in_force sheet steps →
    SidesAre (filled sheet flow (sides_of sides)) sides sides₁ → SidesAre (kept (sides_of sides₁)) sides₁ sides₂ → Held sheet n steps sides sides₂
held-sides sheet n steps flow sides sides₁ sides₂ count wide e took kept₂ =
    let took = rw e at took in
    let loaded : LoadedFor sheet (flow_in_force sheet steps) n (sides_of sides₂).new =
    rw (kept₂.sides, took.sides) (filled-loaded sheet (flow_in_force sheet steps) n (sides_of sides).new count) in
    record {
      sides_are = record { sides = rw (kept₂.sides, took.sides); long = kept₂.long ∙ took.long };
      in_force = record {
        wide = rw (kept₂.long, took.long) wide;
        old = rw kept₂.sides (set-as-loaded (rw kept₂.sides at loaded));
        new = loaded;
      };
    }

-- what the copies read is as long as the river
pub starts-long : (n : ℕ) (list from : List ℕ) → n ≤ width list → from ≡ (sides_of list).new.start → n ≤ length from
starts-long n list from wide e = rw e (long-new list n wide).start

pub copied : (n : ℕ) (to : List ℕ) {from from' to' : List ℕ} → from ≡ from' → to' ≡ over (tab 0 n (λ i. get_or from i 0)) to → to' ≡ over (tab 0 n (λ i. get_or from' i 0)) to
copied n to e h = rw e at h

module _ (sheet : List ℕ) (n : ℕ) (sides sides₂ : List ℕ) (state : State) (u : ℕ) (river : OfSheet sheet n)
    (long : LongFigures n state.channel state.storage state.sediment) (most : u ≤ highest) (held : Held sheet n 0 sides sides₂) where
  pub begun : (c z w : List ℕ) → let figures = tab 0 n (λ i. get_or (sides_of sides₂).new.start i 0) in
      c ≡ over figures state.channel → z ≡ over figures state.storage → w ≡ over figures state.sediment →
      Begun sheet n sides state u sides₂ (record { channel = c; storage = z; sediment = w; upstream = u; steps = 0 })
  unfolding write_figures
  begun c z w ec ez ew =
      let fs = map start_figures (loaded_segments sheet 0) in
      let figures : (part : Figures → ℕ) → ((x : Segment) → x.start ≡ part (start_figures x)) → tab 0 n (λ i. get_or (sides_of sides₂).new.start i 0) ≡ map part fs =
      starts sheet (flow_in_force sheet 0) n (sides_of sides₂).new held.in_force.new in
      let channel = ec ∙ ap (λ l. over l state.channel) (figures (λ x. x.c) (λ x. refl)) in
      let storage = ez ∙ ap (λ l. over l state.storage) (figures (λ x. x.z) (λ x. refl)) in
      let sediment = ew ∙ ap (λ l. over l state.sediment) (figures (λ x. x.w) (λ x. refl)) in
      let is : record { channel = c; storage = z; sediment = w; upstream = u; steps = 0 } ≡ write_figures fs u 0 state = rw (channel, storage, sediment) in
      record {
        state_is = is;
        sides_are = held.sides_are;
        in_force = held.in_force;
        in_range = rw is (ranging sheet n (write_figures fs u 0 state) river.count
            (stands-written sheet fs u 0 state (starts-length sheet) (starts-most 0 (segment_count sheet) (λ i a b. start-most sheet river.passed 0 i (omega arith)))
            (in_range u most) (rw river.count at (none-shorter n (state_lists state) (long.channel, (long.storage, (long.sediment, tt)))))));
      }
    where
      starts-most : (j k : ℕ) → ((i : ℕ) → j ≤ i → i < j + k → (loaded_segment (course_of sheet 0) i).start ≤ highest) →
          All (AtMost highest) (map start_figures (tab j k (loaded_segment (course_of sheet 0))))
      starts-most j k h =
          rw (map-tab start_figures (loaded_segment (course_of sheet 0)) j k)
          (all-tab j k (λ i. start_figures (loaded_segment (course_of sheet 0) i)) (λ i a b. record { c = h i a b; z = h i a b; w = h i a b }))

-- ---- lists that are lent as one

module _ {n : ℕ} {old old' : NumberSet} {new new' : Columns} {state : State} {working : Working} {u' : ℕ} (e : old' ≡ old) (f : new' ≡ new) where
  pub ready_with : Sweep.Ready n old new state working u' → Sweep.Ready n old' new' state working u'
  ready_with r = rw (e, f) r

  pub stepped-with : {after : State} {passed : Working} → Sweep.Stepped n old' new' state working u' after passed → Sweep.Stepped n old new state working u' after passed
  stepped-with r = rw (e, f) at r
