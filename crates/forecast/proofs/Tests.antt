-- Tests 13, 14 and 20 of a forecast, as they are found one behind the other.
use mathlib.Core.Path.{◌≡◌, ◌∙◌}
use mathlib.Core.Bool.{true, false, ◌||◌, or-false}
use mathlib.Core.List.{List, [], ◌∷◌, ◌++◌}
use Prim.Native.Nat.{ℕ, ◌+◌, ◌*◌, ◌<◌, ◌≤◌}
use native.Mathlib.Numerals.{add-one}
use lib.Dec.{ltb}
use lib.ListN.{length}
use Rattle.lists.specs.Lists.{lowest}
use Rattle.lists.proofs.Shorter.{neither, all-long}
use Rattle.model.specs.Ranges.{◌to◌, outside, concentration, most_steps, most_segments}
use Rattle.model.specs.State.{state_lists, figures_at}
use Rattle.model.specs.Refusals.{nothing, segment, fails, test, first}
use Rattle.model.specs.Highest.{blocks_fault}
use Rattle.model.specs.Calls.{river_fault, figure_fault, held_fault}
use Rattle.forecast_model.specs.Forecast.{Question, Live, Room, side_lists, forecast_fault, ahead_tests}
use Rattle.model.proofs.Refusals.{each-passes, each-fails}
use Rattle.calltests.proofs.Found.{first_one}
use Rattle.terms.specs.Lent.{LongFigures}
use Rattle.forecast.specs.Tests.{lent_fault}

-- where nothing is handed that 14 would look at beside the state
pub held-alone : (upstream steps : ℕ) →
    (outside concentration upstream || ltb most_steps steps || outside concentration 0 || ltb most_steps 0) ≡ (outside concentration upstream || ltb most_steps steps)
unfolding outside
held-alone upstream steps = or-false (outside concentration upstream || ltb most_steps steps || false) ∙ or-false (outside concentration upstream || ltb most_steps steps)

module _ (sheet : List ℕ) (live : Live) (room : Room) (asked : Question) where
  pub finds-lent : lent_fault sheet live room ≡ true → fails 13 nothing ≡ first (ahead_tests sheet live room asked)
  unfolding ahead_tests
  finds-lent e = rw e

  module _ (clear : lent_fault sheet live room ≡ false) where
    -- behind 13 the live lists are long enough to be read
    pub live_long : LongFigures live.n live.state.channel live.state.storage live.state.sediment
    unfolding river_fault
    live_long =
        let n = live.n in
        let lists = state_lists live.state ++ state_lists room.copies ++ room.working.p ∷ room.working.y ∷ [] in
        let a = neither (river_fault n lists || blocks_fault n live.highest || blocks_fault n room.highest || ltb (length room.sides) (side_lists * n)) _ clear in
        let b = neither (river_fault n lists || blocks_fault n live.highest || blocks_fault n room.highest) _ a.0 in
        let c = neither (river_fault n lists || blocks_fault n live.highest) _ b.0 in
        let d = neither (river_fault n lists) _ c.0 in
        let l = all-long n lists (neither (outside (1 to most_segments) n) _ d.0).1 in
        record { channel = l.0; storage = l.1.0; sediment = l.1.1.0 }

    abbrev low : ℕ
    low = lowest live.n (λ i. figure_fault (figures_at live.state i))

    pub finds-segment : (i : ℕ) → i < live.n → i ≡ low → fails 14 (segment (i + 1)) ≡ first (ahead_tests sheet live room asked)
    unfolding ahead_tests
    finds-segment i h e =
        rw (clear, each-fails 14 segment live.n (λ j. figure_fault (figures_at live.state j)) (rw e at h), ← e, add-one i)

    module _ (none : live.n ≤ low) where
      pub finds-held : held_fault live.state ≡ true → fails 14 nothing ≡ first (ahead_tests sheet live room asked)
      unfolding ahead_tests
      finds-held e = rw (clear, each-passes 14 segment live.n (λ j. figure_fault (figures_at live.state j)) none, e)

      pub finds-forecast : held_fault live.state ≡ false →
          test 20 (forecast_fault sheet live.state.steps asked) ≡ first (ahead_tests sheet live room asked)
      unfolding ahead_tests
      finds-forecast e = rw (clear, each-passes 14 segment live.n (λ j. figure_fault (figures_at live.state j)) none, e) (first_one _)
