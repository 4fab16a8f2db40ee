-- The copies say what the live state says, and go the same river.
use mathlib.Core.Path.{◌≡◌, refl, sym, ap, ◌∙◌}
use mathlib.Core.Bool.{Bool}
use mathlib.Core.List.{List}
use Prim.Native.Nat.{ℕ, zero, suc, ◌-◌, ◌<◌, min}
use lib.Dec.{ltb}
use lib.ListN.{get_or}
use Rattle.lists.specs.Lists.{lowest_from, lowest}
use Rattle.lists.proofs.Tab.{length-tab, get_or-tab}
use Rattle.model.specs.Sheet.{segment_count}
use Rattle.model.specs.Equations.{Figures}
use Rattle.model.specs.State.{State, figures_at, figures_of, write_figures}
use Rattle.model.specs.OwnRiver.{rows_upstream, ahead, Alike}
use Rattle.forecast_model.specs.Forecast.{Question, Live, state_at, is_above, first_above, steps_made, copied}
use Rattle.model.proofs.ReadBack.{read_back}
use Rattle.own_river_laws.proofs.Ahead.{ahead-alike}

-- the lowest rests on the tests' values alone
lowest-same : (f g : ℕ → Bool) → ((k : ℕ) → f k ≡ g k) → (i n : ℕ) → lowest_from i n f ≡ lowest_from i n g
unfolding lowest_from
lowest-same f g same i zero = refl
lowest-same f g same i (suc n) = rw (same i, lowest-same f g same (suc i) n)

-- states that are alike have the same figures in each segment
pub figures-alike : (n : ℕ) (s t : State) → figures_of n s ≡ figures_of n t → (i : ℕ) → i < n → figures_at s i ≡ figures_at t i
figures-alike n s t e i h =
    let none : Figures = record { c = 0; z = 0; w = 0 } in
    sym (get_or-tab (figures_at s) n i none h) ∙ ap (λ (l : List Figures). get_or l i none) e ∙ get_or-tab (figures_at t) n i none h

module _ (sheet : List ℕ) (live : Live) (copies : State) (count : live.n ≡ segment_count sheet) where
  pub copied-alike : Alike (segment_count sheet) (copied live copies) live.state
  unfolding copied write_figures
  copied-alike = record {
    figures = rw (← count) (read_back live.n (figures_of live.n live.state) live.state.upstream live.state.steps copies (length-tab (figures_at live.state) 0 live.n));
    upstream = refl;
    steps = refl;
  }

  -- k steps on
  pub ahead-copied : (k : ℕ) → Alike (segment_count sheet) (ahead (rows_upstream sheet) sheet (copied live copies) k) (state_at sheet live k)
  ahead-copied k = ahead-alike (rows_upstream sheet) sheet (copied live copies) live.state k copied-alike

  module _ (asked : Question) (inside : asked.gauge - 1 < live.n) where
    -- they are above where the live river is
    pub above-copied : (k : ℕ) → ltb asked.limit (get_or (ahead (rows_upstream sheet) sheet (copied live copies) k).channel (asked.gauge - 1) 0) ≡ is_above sheet live asked k
    unfolding is_above figures_at
    above-copied k =
        let e = figures-alike (segment_count sheet) (ahead (rows_upstream sheet) sheet (copied live copies) k) (state_at sheet live k) (ahead-copied k).figures (asked.gauge - 1) (rw count at inside) in
        ap (λ (f : Figures). ltb asked.limit f.c) e

    -- and make as many steps
    pub made-copied : min (lowest (suc asked.horizon) (λ k. ltb asked.limit (get_or (ahead (rows_upstream sheet) sheet (copied live copies) k).channel (asked.gauge - 1) 0))) asked.horizon
        ≡ steps_made sheet live asked
    unfolding steps_made first_above lowest
    made-copied = ap (λ k. min k asked.horizon) (lowest-same _ (is_above sheet live asked) above-copied 0 (suc asked.horizon))
