-- Document 01, "With the rows' U and the sheet's M this is the sheet's own river": the states that it goes through.
use Rattle.std.specs.Prelude.{◌≡◌, List, ◌∷◌, map, ℕ, zero, suc}
use Rattle.lists.specs.Lists.{tab, over}
use Rattle.model.specs.Sheet.{row_starts, row_concentrations, segment_count}
use Rattle.model.specs.Sweep.{downward, stepped}
use Rattle.model.specs.State.{loaded_segments, State, figures_of, write_figures}
use Rattle.model.specs.Upstream.{upstream_at}
use Rattle.model.specs.Calls.{start_figures, Working}
use Rattle.model.specs.Runs.{sheet_pairs, Event, started, moved}

-- "the rows' U" at step j
unfoldable pub rows_upstream : List ℕ → (j : ℕ) → ℕ
rows_upstream sheet j = upstream_at j (row_starts sheet) (row_concentrations sheet)

-- one step on from a state whose count is n: with "the pair that the sheet's rows give for step n + 1", and U'
unfoldable pub own_step : List ℕ → (u' : ℕ) → State → State
own_step sheet u' state =
    let figures = stepped state.upstream u' (sheet_pairs sheet state.steps) (figures_of (segment_count sheet) state) in
    write_figures figures u' (suc state.steps) state

-- k steps on; u gives U at each step, whether rows or a logger say it
unfoldable pub ahead : (u : ℕ → ℕ) → List ℕ → State → (k : ℕ) → State
ahead u sheet state zero = state
ahead u sheet state (suc k) = ahead u sheet (own_step sheet (u (suc state.steps)) state) k

-- p and y of that step's downward pass over the working lists, as a step call leaves them
unfoldable pub own_working : List ℕ → (u' : ℕ) → State → Working → Working
own_working sheet u' state working =
    let passed = downward state.upstream u' (sheet_pairs sheet state.steps) (figures_of (segment_count sheet) state) in
    record { p = over (map (λ x. x.p) passed) working.p; y = over (map (λ x. x.y) passed) working.y }

-- those of the last of k steps
unfoldable pub working_ahead : (u : ℕ → ℕ) → List ℕ → State → Working → (k : ℕ) → Working
working_ahead u sheet state working zero = working
working_ahead u sheet state working (suc k) = let last = ahead u sheet state k in own_working sheet (u (suc last.steps)) last working

-- "A start sets C, Z and W to the start figure, U to that of step 0 and the count to 0", in lists of an entry for each segment; start figures are
-- the same for every flow
unfoldable pub own_start : (u : ℕ → ℕ) → List ℕ → State
own_start u sheet =
    let figures = map start_figures (loaded_segments sheet 0) in
    record {
      channel = map (λ x. x.c) figures;
      storage = map (λ x. x.z) figures;
      sediment = map (λ x. x.w) figures;
      upstream = u 0;
      steps = 0;
    }

-- the sheet's own river at step k, from the sheet and U alone
unfoldable pub own_state : (u : ℕ → ℕ) → List ℕ → (k : ℕ) → State
own_state u sheet k = ahead u sheet (own_start u sheet) k

-- two states of n segments say the same: their lists may be longer, and hold anything there
pub record Alike (n : ℕ) (s t : State) : Type 0 where
  pub figures : figures_of n s ≡ figures_of n t
  pub upstream : s.upstream ≡ t.upstream
  pub steps : s.steps ≡ t.steps

-- what the exact river is fed of it: a start, and then k steps
unfoldable pub own_events : (u : ℕ → ℕ) → (k : ℕ) → List Event
own_events u k = started (u 0) ∷ tab 1 k (λ j. moved (u j))
