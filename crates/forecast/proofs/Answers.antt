-- The whole outcome of a forecast, from what its tests find.
use mathlib.Core.Path.{◌≡◌, ap, ◌∙◌}
use mathlib.Core.List.{List, ◌++◌}
use Prim.Native.Nat.{ℕ}
use Rattle.model.specs.State.{State, write_figures}
use Rattle.model.specs.Refusals.{Place, accepted, refused, Finding, passes, fails, first}
use Rattle.model.specs.Load.{river_tests}
use Rattle.model.specs.Pool.{Slot, slot_of, Pool, state_of}
use Rattle.forecast_model.specs.Forecast.{Question, Live, Room, Foreseen, copied, forecast_left, ahead_tests, forecast_tests, forecast_of, forecast, live_on, pool_forecast_tests, pool_forecast}
use Rattle.model.proofs.Refusals.{first_rest, first-front}
use Rattle.pool_laws.proofs.Answers.{front_tests}
use Rattle.terms.specs.Lent.{state}
use Rattle.forecast.specs.Says.{live_river, room}
use Rattle.forecast.specs.Left.{Looked, result_left, SidesLeft}

-- the copies' U and count before are of no matter
abbrev pub lent_with : Room → (upstream steps : ℕ) → Room
lent_with x upstream steps = room (state x.copies.channel x.copies.storage x.copies.sediment upstream steps) x.highest x.sides x.working

module _ (sheet : List ℕ) (live : Live) (lent : Room) (asked : Question) where
  -- all tests pass
  pub looked-result : {answer : Foreseen} {after : Room} → Looked sheet live lent asked answer after →
      (upstream steps : ℕ) → first (ahead_tests sheet live (lent_with lent upstream steps) asked) ≡ passes →
      result_left (accepted answer) (state after.copies.channel after.copies.storage after.copies.sediment) upstream steps after.highest after.working
      ≡ forecast_of (ahead_tests sheet live (lent_with lent upstream steps) asked) sheet live (lent_with lent upstream steps) asked
  unfolding forecast_left copied write_figures
  looked-result l upstream steps pass = rw (pass, l.answer_is, ← l.left_is)

  pub looked-sides : {answer : Foreseen} {after : Room} → Looked sheet live lent asked answer after → SidesLeft (accepted answer) sheet lent.sides after.sides
  looked-sides l = rw l.answer_is l.sides_are

  module _ {k : ℕ} {place : Place} where
    -- one of them fails
    pub fails-result : first (ahead_tests sheet live lent asked) ≡ fails k place →
        result_left (refused k place) (state lent.copies.channel lent.copies.storage lent.copies.sediment) lent.copies.upstream lent.copies.steps lent.highest lent.working
        ≡ forecast_of (ahead_tests sheet live lent asked) sheet live lent asked
    fails-result e = rw e

    -- one of the sheet's
    pub sheet-fails : first (river_tests sheet) ≡ fails k place →
        result_left (refused k place) (state lent.copies.channel lent.copies.storage lent.copies.sediment) lent.copies.upstream lent.copies.steps lent.highest lent.working
        ≡ forecast sheet live lent asked
    unfolding forecast forecast_tests
    sheet-fails e = rw (first-front (river_tests sheet) (ahead_tests sheet live lent asked) e)

  -- the sheet's pass
  pub sheet-passes : first (river_tests sheet) ≡ passes → forecast_of (ahead_tests sheet live lent asked) sheet live lent asked ≡ forecast sheet live lent asked
  unfolding forecast forecast_tests
  sheet-passes e = rw (first_rest (river_tests sheet) (ahead_tests sheet live lent asked) e)

-- ---- on a pool

module _ (sheet : List ℕ) (p : Pool) (number : ℕ) (highest : List ℕ) (lent : Room) (asked : Question) where
  abbrev rest : List Finding
  rest = ahead_tests sheet (live_on p number highest) lent asked

  module _ {k : ℕ} {place : Place} where
    pub pool-sheet-fails : first (river_tests sheet) ≡ fails k place →
        result_left (refused k place) (state lent.copies.channel lent.copies.storage lent.copies.sediment) lent.copies.upstream lent.copies.steps lent.highest lent.working
        ≡ pool_forecast sheet p number highest lent asked
    unfolding pool_forecast pool_forecast_tests
    pool-sheet-fails e = rw (first-front (river_tests sheet ++ front_tests p number) rest (first-front (river_tests sheet) (front_tests p number) e))

    pub pool-fails : first (river_tests sheet) ≡ passes → first (front_tests p number) ≡ fails k place →
        result_left (refused k place) (state lent.copies.channel lent.copies.storage lent.copies.sediment) lent.copies.upstream lent.copies.steps lent.highest lent.working
        ≡ pool_forecast sheet p number highest lent asked
    unfolding pool_forecast pool_forecast_tests
    pool-fails e q = rw (first-front (river_tests sheet ++ front_tests p number) rest (first_rest (river_tests sheet) (front_tests p number) e ∙ q))

  -- both pass: the parts that are lent are the river's state
  pub pool-passes : first (river_tests sheet) ≡ passes → first (front_tests p number) ≡ passes → (x : Slot) → x ≡ slot_of p.table number →
      (s : State) → s ≡ state_of p number → let live = live_river x.segments s highest in
      forecast_of (ahead_tests sheet live lent asked) sheet live lent asked ≡ pool_forecast sheet p number highest lent asked
  unfolding pool_forecast pool_forecast_tests
  pool-passes e q x is s at =
      ap (λ (s : State). let live = live_river x.segments s highest in forecast_of (ahead_tests sheet live lent asked) sheet live lent asked) at
      ∙ ap (λ (y : Slot). let live = live_river y.segments (state_of p number) highest in forecast_of (ahead_tests sheet live lent asked) sheet live lent asked) is
      ∙ rw (first_rest (river_tests sheet ++ front_tests p number) rest (first_rest (river_tests sheet) (front_tests p number) e ∙ q))
