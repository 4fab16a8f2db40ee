-- Where a forecast stops, and what it finds there.
use mathlib.Core.Path.{◌≡◌, sym, ◌∙◌}
use mathlib.Core.Bool.{true, false, true≢false}
use mathlib.Core.List.{List}
use mathlib.Core.Logic.{⊎_elim}
use mathlib.Core.Option.{none, some}
use Prim.Native.Nat.{ℕ, suc, ◌+◌, ◌<◌, ◌≤◌, min}
use native.Mathlib.Omega.{arith}
use borrow.Author.Tests.{le-leb, lt-leb}
use Rattle.lists.specs.Lists.{lowest}
use Rattle.lists.proofs.Lowest.{lowest-is}
use Rattle.lists.proofs.Stretch.{lt-or-ge}
use Rattle.forecast_model.specs.Forecast.{Question, Live, state_at, is_above, first_above, steps_made, foreseen}

module _ (sheet : List ℕ) (live : Live) (asked : Question) where
  -- it goes no further than the horizon
  pub made-most : steps_made sheet live asked ≤ asked.horizon
  unfolding steps_made
  made-most = omega arith

  -- before it stops it is not above
  pub none_before : (k : ℕ) → k < steps_made sheet live asked → is_above sheet live asked k ≡ false
  unfolding steps_made first_above
  none_before k h = (lowest-is (is_above sheet live asked) (suc asked.horizon)).none k (omega arith) (omega arith)

  -- above where it stops: that is the first
  found_first : is_above sheet live asked (steps_made sheet live asked) ≡ true → first_above sheet live asked ≡ steps_made sheet live asked
  unfolding steps_made first_above
  found_first e =
      let low = lowest-is (is_above sheet live asked) (suc asked.horizon) in
      ⊎_elim
      (λ (l : asked.horizon < lowest (suc asked.horizon) (is_above sheet live asked)).
      let m : min (lowest (suc asked.horizon) (is_above sheet live asked)) asked.horizon ≡ asked.horizon = omega arith in
      absurd (true≢false (sym (rw m at e) ∙ low.none asked.horizon (omega arith) l)))
      (λ (l : lowest (suc asked.horizon) (is_above sheet live asked) ≤ asked.horizon). omega arith)
      (lt-or-ge asked.horizon (lowest (suc asked.horizon) (is_above sheet live asked)))

  -- not above there: at no step of the horizon, and that is the horizon's end
  found_none : is_above sheet live asked (steps_made sheet live asked) ≡ false → asked.horizon < first_above sheet live asked
  unfolding steps_made first_above
  found_none e =
      let low = lowest-is (is_above sheet live asked) (suc asked.horizon) in
      ⊎_elim
      (λ l. l)
      (λ (l : lowest (suc asked.horizon) (is_above sheet live asked) ≤ asked.horizon).
      let m : min (lowest (suc asked.horizon) (is_above sheet live asked)) asked.horizon ≡ lowest (suc asked.horizon) (is_above sheet live asked) = omega arith in
      absurd (true≢false (sym (low.at_fault (omega arith)) ∙ (rw m at e))))
      (lt-or-ge asked.horizon (lowest (suc asked.horizon) (is_above sheet live asked)))

  -- what it hands back in either case
  pub sees-above : is_above sheet live asked (steps_made sheet live asked) ≡ true → let stops = state_at sheet live (steps_made sheet live asked) in
      foreseen sheet live asked ≡ record { found = some (live.state.steps + steps_made sheet live asked); upstream = stops.upstream; steps = stops.steps }
  unfolding foreseen
  sees-above e =
      let first = found_first e in
      let within = le-leb (first_above sheet live asked) asked.horizon (omega (arith, first, made-most)) in
      rw (within, first)

  pub sees-none : is_above sheet live asked (steps_made sheet live asked) ≡ false → let stops = state_at sheet live (steps_made sheet live asked) in
      foreseen sheet live asked ≡ record { found = none; upstream = stops.upstream; steps = stops.steps }
  unfolding foreseen
  sees-none e = rw (lt-leb (first_above sheet live asked) asked.horizon (found_none e))

  pub at-the-end : is_above sheet live asked (steps_made sheet live asked) ≡ false → steps_made sheet live asked ≡ asked.horizon
  unfolding steps_made
  at-the-end e = omega (arith, found_none e)
