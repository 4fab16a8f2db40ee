-- A forecast whose tests pass: what is copied, and that the answer and what is left are the definition's.
use mathlib.Core.Path.{◌≡◌, refl, sym, ap, ◌∙◌}
use mathlib.Core.Bool.{Bool, true, false, cond}
use mathlib.Core.List.{List}
use Prim.Native.Nat.{ℕ, zero, suc, ◌+◌, ◌-◌, ◌<◌, ◌≤◌, min}
use native.Mathlib.Omega.{arith}
use borrow.Author.Tests.{ltb-false}
use lib.Dec.{ltb}
use lib.ListN.{length, get_or}
use Rattle.lists.specs.Lists.{tab, over, lowest}
use Rattle.lists.proofs.Over.{over-long}
use Rattle.lists.proofs.Shorter.{all-long, neither}
use Rattle.lists.proofs.Tab.{map-tab}
use Rattle.model.specs.Ranges.{outside, concentration, most_segments}
use Rattle.model.specs.Sheet.{segment_count}
use Rattle.model.specs.Equations.{Figures}
use Rattle.model.specs.State.{State, state_lists, figures_at, figures_of, write_figures}
use Rattle.model.specs.Refusals.{passes, first}
use Rattle.model.specs.Load.{river_tests}
use Rattle.model.specs.Highest.{block_count, highest_of, blocks_fault}
use Rattle.model.specs.Calls.{held_fault, Working}
use Rattle.model.specs.OwnRiver.{rows_upstream, ahead, working_ahead, Alike}
use Rattle.forecast_model.specs.Forecast.{Question, Live, Room, state_at, is_above, steps_made, foreseen, copied, copied_highest, forecast_left}
use Rattle.model.proofs.Ranges.{inside}
use Rattle.own_river_laws.proofs.Ahead.{ahead-counts}
use Rattle.own_river_laws.proofs.Sheets.{most-segments}
use Rattle.own_river_laws.proofs.Standing.{figure-most}
use Rattle.forecast_laws.proofs.Passed.{Passed, gauge-inside}
use Rattle.forecast_laws.proofs.Found.{sees-above, sees-none}
use Rattle.forecast_laws.proofs.Copies.{figures-alike, copied-alike, ahead-copied, above-copied, made-copied}
use Rattle.terms.specs.Lent.{state}
use Rattle.otis.specs.declared.River.{River}
use Rattle.own_river.specs.Sides.{sides_of, held_at}
use Rattle.own_river.specs.Ready.{Held, Ready}
use Rattle.forecast.specs.declared.Forecast.{Forecast}
use Rattle.forecast.specs.Says.{foreseen_says}
use Rattle.forecast.specs.Left.{Fit, Ran, Looked}

-- ---- the highest figures

pub highest-copied : (n made m : ℕ) (live channel before : List ℕ) {after : List ℕ} → made ≡ 0 → m ≡ block_count n → after ≡ over (tab 0 m (λ i. get_or live i 0)) before →
    after ≡ copied_highest n live channel before made
unfolding copied_highest
highest-copied n made m live channel before e count is = rw e (rw count at is)

pub highest-filled : (n made : ℕ) (live channel before : List ℕ) {after : List ℕ} → (made ≡ 0 → ⊥) → after ≡ over (highest_of n channel) before →
    after ≡ copied_highest n live channel before made
unfolding copied_highest
highest-filled n zero live channel before some is = absurd (some refl)
highest-filled n (suc made) live channel before some is = is

-- ---- what the passed tests say

pub fits : (sheet : List ℕ) (live : Live) (room : Room) (asked : Question) → first (river_tests sheet) ≡ passes → Passed sheet live room asked → Fit sheet live room asked
unfolding blocks_fault held_fault
fits sheet live room asked front p =
    let n = live.n in
    let l = all-long n (state_lists live.state) p.live_long in
    let c = all-long n (state_lists room.copies) p.copies_long in
    let w = all-long n _ p.working_long in
    let g = gauge-inside sheet live room asked front p in
    record {
      of_sheet = record { passed = front; count = sym p.count };
      in_range = record {
        long = record { channel = l.0; storage = l.1.0; sediment = l.1.1.0 };
        most = λ i h. figure-most (figures_at live.state i) (p.figures i h);
        upstream = (inside concentration _ (neither (outside concentration live.state.upstream) _ p.held).0).1;
      };
      blocks = ltb-false _ _ p.blocks;
      copies = record { channel = c.0; storage = c.1.0; sediment = c.1.1.0 };
      copies_blocks = ltb-false _ _ p.copies_blocks;
      wide = let h = p.sides_long in omega arith;
      p_long = w.0;
      y_long = w.1.0;
      first_segment = g.0;
      last_segment = g.1;
      few = p.few;
    }

module _ (sheet : List ℕ) (live : Live) (room : Room) (asked : Question) (fit : Fit sheet live room asked) where
  -- at most 1,024 segments
  pub few-segments : live.n ≤ most_segments
  few-segments = rw fit.of_sheet.count (most-segments sheet fit.of_sheet.passed)

  -- the gauge's place in the lists
  pub at-inside : asked.gauge - 1 < live.n
  at-inside = omega (arith, fit.first_segment, fit.last_segment)

  -- ---- the copies

  -- the first entries of a list over those of another
  abbrev copied_over : (from to : List ℕ) → List ℕ
  copied_over from to = over (tab 0 live.n (λ i. get_or from i 0)) to

  module _ {c z w : List ℕ} (ec : c ≡ copied_over live.state.channel room.copies.channel) (ez : z ≡ copied_over live.state.storage room.copies.storage)
      (ew : w ≡ copied_over live.state.sediment room.copies.sediment) where
    abbrev begun : State
    begun = state c z w live.state.upstream live.state.steps

    begun-is : begun ≡ copied live room.copies
    unfolding copied write_figures figures_at
    begun-is =
        rw (
          ec,
          ez,
          ew,
          map-tab (λ (f : Figures). f.c) (figures_at live.state) 0 live.n,
          map-tab (λ (f : Figures). f.z) (figures_at live.state) 0 live.n,
          map-tab (λ (f : Figures). f.w) (figures_at live.state) 0 live.n,
        )

    -- a list stays as long as it was
    long-copied : (from to list : List ℕ) → list ≡ copied_over from to → live.n ≤ length to → live.n ≤ length list
    long-copied from to list e h = rw e (let l = over-long (tab 0 live.n (λ i. get_or from i 0)) to in omega arith)

    -- what the first step asks
    pub begun-ready : {sides : List ℕ} → Held sheet live.n live.state.steps room.sides sides → Ready sheet live.n sides begun room.working
    begun-ready {sides} held = record {
      of_sheet = fit.of_sheet;
      in_force = held.in_force;
      in_range = record {
        long = record {
          channel = long-copied live.state.channel room.copies.channel c ec fit.copies.channel;
          storage = long-copied live.state.storage room.copies.storage z ez fit.copies.storage;
          sediment = long-copied live.state.sediment room.copies.sediment w ew fit.copies.sediment;
        };
        most = λ i h.
            let alike = copied-alike sheet live room.copies fit.of_sheet.count in
            let e : figures_at begun i ≡ figures_at live.state i =
            figures-alike (segment_count sheet) begun live.state (ap (figures_of (segment_count sheet)) begun-is ∙ alike.figures) i (rw fit.of_sheet.count at h) in
            rw e (fit.in_range.most i h);
        upstream = fit.in_range.upstream;
      };
      p_long = fit.p_long;
      y_long = fit.y_long;
    }

    -- ---- the steps made

    module _ {sides sides₁ : List ℕ} {stopped : State} {working₁ : Working} (held : Held sheet live.n live.state.steps room.sides sides)
        (ran : Ran sheet sides begun room.working (asked.gauge - 1) asked.limit asked.horizon sides₁ stopped working₁) where
      abbrev k : ℕ
      k = steps_made sheet live asked

      made : ran.made ≡ k
      made =
          ran.made_is
          ∙ ap (λ (s : State). min (lowest (suc asked.horizon) (λ j. ltb asked.limit (get_or (ahead (rows_upstream sheet) sheet s j).channel (asked.gauge - 1) 0))) asked.horizon) begun-is
          ∙ made-copied sheet live room.copies fit.of_sheet.count asked at-inside

      stopped-is : stopped ≡ ahead (rows_upstream sheet) sheet (copied live room.copies) k
      stopped-is =
          ran.state_is ∙ ap (λ (s : State). ahead (rows_upstream sheet) sheet s ran.made) begun-is ∙ ap (ahead (rows_upstream sheet) sheet (copied live room.copies)) made

      working_is : working₁ ≡ working_ahead (rows_upstream sheet) sheet (copied live room.copies) room.working k
      working_is =
          ran.working_is ∙ ap (λ (s : State). working_ahead (rows_upstream sheet) sheet s room.working ran.made) begun-is
          ∙ ap (working_ahead (rows_upstream sheet) sheet (copied live room.copies) room.working) made

      alike : Alike (segment_count sheet) stopped (state_at sheet live k)
      alike = rw stopped-is (ahead-copied sheet live room.copies fit.of_sheet.count k)

      counts : stopped.steps ≡ live.state.steps + k
      counts = alike.steps ∙ ahead-counts (rows_upstream sheet) sheet live.state k

      -- not fewer than at the start
      pub not_back : live.state.steps ≤ stopped.steps
      not_back = omega (arith, counts)

      -- the copies' list is as long as it was
      pub stopped-long : live.n ≤ length stopped.channel
      stopped-long =
          let h = long-copied live.state.channel room.copies.channel c ec fit.copies.channel in
          rw ran.channel_long h

      -- ---- the answer

      answer_is : (r : Forecast) (figure : ℕ) (river : River) → river.upstream ≡ stopped.upstream → river.steps ≡ stopped.steps →
          figure ≡ get_or stopped.channel (asked.gauge - 1) 0 →
          r ≡ cond (ltb asked.limit figure) (Forecast.Above river) (Forecast.NotAbove river) → foreseen_says r ≡ foreseen sheet live asked
      answer_is r figure river eu es ef er = go (is_above sheet live asked k) refl
        where
          shown : ltb asked.limit figure ≡ is_above sheet live asked k
          shown =
              ap (ltb asked.limit) (ef ∙ ap (λ (s : State). get_or s.channel (asked.gauge - 1) 0) stopped-is)
              ∙ above-copied sheet live room.copies fit.of_sheet.count asked at-inside k

          go : (t : Bool) → is_above sheet live asked k ≡ t → foreseen_says r ≡ foreseen sheet live asked
          go true e = rw (er, shown, e, sees-above sheet live asked e, eu, es, ← counts, alike.upstream, alike.steps)
          go false e = rw (er, shown, e, sees-none sheet live asked e, eu, es, alike.upstream, alike.steps)

      -- ---- the whole

      pub looked : (r : Forecast) (figure more : ℕ) (river : River) (highest₁ : List ℕ) → river.upstream ≡ stopped.upstream → river.steps ≡ stopped.steps →
          more ≡ river.steps - live.state.steps → highest₁ ≡ copied_highest live.n live.highest stopped.channel room.highest more →
          figure ≡ get_or stopped.channel (asked.gauge - 1) 0 → r ≡ cond (ltb asked.limit figure) (Forecast.Above river) (Forecast.NotAbove river) →
          Looked sheet live room asked (foreseen_says r) (record { copies = state stopped.channel stopped.storage stopped.sediment 0 0; highest = highest₁; sides = sides₁; working = working₁ })
      unfolding forecast_left foreseen
      looked r figure more river highest₁ eu es em eh ef er =
          let count : more ≡ k = omega (arith, em, es, counts) in
          let same : state stopped.channel stopped.storage stopped.sediment (state_at sheet live k).upstream (state_at sheet live k).steps ≡ stopped =
          rw (← alike.upstream, ← alike.steps) in
          record {
            answer_is = answer_is r figure river eu es ef er;
            left_is = rw (same, eh, count, working_is, stopped-is);
            sides_are = record {
              sides = ran.sides_are (sides_of room.sides) held.sides_are.sides ∙ ap (λ m. held_at sheet m (sides_of room.sides)) alike.steps;
              long = ran.long ∙ held.sides_are.long;
            };
          }
