-- What a forecast leaves, and what its parts ask and leave.
use Rattle.std.specs.Prelude.{◌≡◌, List, ℕ, suc, ◌+◌, ◌≤◌, min, ltb, length, get_or}
use Rattle.lists.specs.Lists.{lowest}
use Rattle.model.specs.Sheet.{steps_m}
use Rattle.model.specs.State.{State}
use Rattle.model.specs.Refusals.{Outcome, accepted, refused}
use Rattle.model.specs.Highest.{block_count}
use Rattle.model.specs.Calls.{Working, Result}
use Rattle.model.specs.OwnRiver.{rows_upstream, ahead, working_ahead}
use Rattle.forecast_model.specs.Forecast.{Question, Live, Room, Foreseen, foreseen, forecast_left}
use Rattle.terms.specs.Lent.{state, left, LongFigures}
use Rattle.otis.specs.Outcomes.{handed, result_with}
use Rattle.own_river.specs.Sides.{width, Sides, sides_of, held_at, SidesAre}
use Rattle.own_river.specs.Ready.{OfSheet, InRange}

-- the result of a call with this answer: `copies` takes U and the count, those of the answer or those that the copies had
abbrev pub result_left : Outcome Foreseen → (copies : (upstream steps : ℕ) → State) → (upstream steps : ℕ) → (highest : List ℕ) → Working → Result State Foreseen
result_left answer copies upstream steps highest working =
    result_with answer (copies (handed answer (λ v. v.upstream) upstream) (handed answer (λ v. v.steps) steps)) highest working

-- what it leaves in the list of both sides: where it is accepted, both hold the set of the flow in force at the step that it stops at; entries behind the
-- river are as they were on the new side, and the new side's on the old one
abbrev pub SidesLeft : Outcome Foreseen → (sheet before after : List ℕ) → Type 0
SidesLeft (accepted v) sheet before after = SidesAre (held_at sheet v.steps (sides_of before)) before after
SidesLeft (refused number place) sheet before after = after ≡ before

-- what the passed tests say of what is lent and handed
pub record Fit (sheet : List ℕ) (live : Live) (room : Room) (asked : Question) : Type 0 where
  pub of_sheet : OfSheet sheet live.n
  pub in_range : InRange live.n live.state
  pub blocks : block_count live.n ≤ length live.highest
  pub copies : LongFigures live.n room.copies.channel room.copies.storage room.copies.sediment
  pub copies_blocks : block_count live.n ≤ length room.highest
  pub wide : live.n ≤ width room.sides
  pub p_long : live.n ≤ length room.working.p
  pub y_long : live.n ≤ length room.working.y
  pub first_segment : 1 ≤ asked.gauge
  pub last_segment : asked.gauge ≤ live.n
  pub few : live.state.steps + asked.horizon ≤ steps_m sheet

-- what stepping ahead from this state leaves: so many steps are made as bring the channel figure at place `at` above the limit, or the horizon's
pub record Ran (sheet : List ℕ) (sides : List ℕ) (from : State) (working : Working) (at limit horizon : ℕ) (sides' : List ℕ) (state' : State) (working' : Working) : Type 0 where
  pub made : ℕ
  pub made_is : made ≡ min (lowest (suc horizon) (λ k. ltb limit (get_or (ahead (rows_upstream sheet) sheet from k).channel at 0))) horizon
  pub state_is : state' ≡ ahead (rows_upstream sheet) sheet from made
  pub working_is : working' ≡ working_ahead (rows_upstream sheet) sheet from working made
  pub sides_are : (x : Sides) → sides_of sides ≡ held_at sheet from.steps x → sides_of sides' ≡ held_at sheet state'.steps x
  pub long : length sides' ≡ length sides
  pub channel_long : length state'.channel ≡ length from.channel
  pub storage_long : length state'.storage ≡ length from.storage
  pub sediment_long : length state'.sediment ≡ length from.sediment

-- what a forecast whose tests pass leaves in the room; U and the count of its copies are of no matter
pub record Looked (sheet : List ℕ) (live : Live) (room : Room) (asked : Question) (answer : Foreseen) (after : Room) : Type 0 where
  pub answer_is : answer ≡ foreseen sheet live asked
  pub left_is : let v = foreseen sheet live asked in
      left (state after.copies.channel after.copies.storage after.copies.sediment v.upstream v.steps) after.highest after.working
      ≡ forecast_left sheet live room asked
  pub sides_are : SidesAre (held_at sheet (foreseen sheet live asked).steps (sides_of room.sides)) room.sides after.sides
