-- An answer as a C caller reads it: in numbers, since no enum crosses the boundary.
use Rattle.std.specs.Prelude.{◌≡◌, List, [], ◌∷◌, ℕ}
use Rattle.std.specs.Borrow.{MutBor}
use Rattle.std.proofs.Math.Option.{Option, none, some}
use Rattle.model.specs.Refusals.{Place, nothing, reach, segment, row, Outcome, accepted, refused, Finding, passes, fails}
use Rattle.model.specs.Load.{Loaded}
use Rattle.model.specs.State.{State}
use Rattle.model.specs.Calls.{Left, Reported, Result}
use Rattle.forecast_model.specs.Forecast.{Foreseen}
use Rattle.otis.specs.Outcomes.{handed}

-- "its place, which is a reach, a segment, a row or nothing": its kind, 0 for nothing
abbrev pub kind_number : Place → ℕ
kind_number nothing = 0
kind_number (reach i) = 1
kind_number (segment i) = 2
kind_number (row i) = 3

-- and its number, which counts from 1; 0 for nothing
abbrev pub place_number : Place → ℕ
place_number nothing = 0
place_number (reach i) = i
place_number (segment i) = i
place_number (row i) = i

-- "A refusal carries its number and its place"; a call that is accepted has number 0 and no place
abbrev pub number_of : Finding → ℕ
number_of passes = 0
number_of (fails number place) = number

abbrev pub place_of : Finding → Place
place_of passes = nothing
place_of (fails number place) = place

-- the three numbers that every call writes, where its tests find this
pub record Told (finding : Finding) (number' kind' place' : ℕ) : Type 0 where
  pub number : number' ≡ number_of finding
  pub kind : kind' ≡ kind_number (place_of finding)
  pub place : place' ≡ place_number (place_of finding)

-- the same behind three references, as a call leaves them
abbrev pub Tells : Finding → (MutBor ℕ × (MutBor ℕ × (MutBor ℕ × Unit {0}))) → Type 0
Tells finding (number, (kind, (place, end))) = Told finding number.now kind.now place.now

-- what the tests of a call with this answer found
abbrev pub found_by : {A : Type 0} → Outcome A → Finding
found_by (accepted v) = passes
found_by (refused number place) = fails number place

-- what a start or a step hands out and leaves: the three numbers of its answer, and the state or the pool, the highest figures and the working lists
pub record Handed {S A : Type 0} (result : Result S A) (number kind place : ℕ) (after : Left S) : Type 0 where
  pub told : Told (found_by result.answer) number kind place
  pub left : after ≡ result.left

-- what a report hands out: C, Z and Kd × W, where c, z and kdw were
pub record ReportHanded (answer : Outcome Reported) (number kind place c z kdw c' z' kdw' : ℕ) : Type 0 where
  pub told : Told (found_by answer) number kind place
  pub channel : c' ≡ handed answer (λ v. v.channel) c
  pub storage : z' ≡ handed answer (λ v. v.storage) z
  pub sediment : kdw' ≡ handed answer (λ v. v.sediment) kdw

-- the nine values of a loading: the seven in document 01's order, then where the flow rows begin and how many there are
abbrev pub loaded_values : Loaded → List ℕ
loaded_values v =
    v.steps ∷ v.interval ∷ v.segments ∷ v.rows_at ∷ v.rows ∷ v.gauges_at ∷ v.gauges ∷ v.flow_rows_at ∷ v.flow_rows ∷ []

-- what a search found: 0 for none, which is the number of no segment
abbrev pub segment_number : Option ℕ → ℕ
segment_number none = 0
segment_number (some number) = number

-- what a search hands out, for one of the answers that it may give
pub record SearchHanded (Answer : Outcome (Option ℕ) → Type 0) (number kind place before after : ℕ) : Type 0 where
  pub answer : Outcome (Option ℕ)
  pub allowed : Answer answer
  pub told : Told (found_by answer) number kind place
  pub segment : after ≡ handed answer segment_number before

-- whether a forecast found a step above the limit, which is then the count of its copies: 1, and 0 for none
abbrev pub above_number : Option ℕ → ℕ
above_number none = 0
above_number (some step) = 1

-- what a forecast hands out and leaves: the three numbers of its answer, that one, where `before` was, and the copies, their highest figures and the
-- working lists
pub record ForecastHanded (result : Result State Foreseen) (number kind place before after : ℕ) (later : Left State) : Type 0 where
  pub told : Told (found_by result.answer) number kind place
  pub above : after ≡ handed result.answer (λ v. above_number v.found) before
  pub left : later ≡ result.left
