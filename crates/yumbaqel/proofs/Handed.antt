-- What an export of a start, a step or a forecast hands out and leaves, from the outcome of its call.
use mathlib.Core.Path.{◌≡◌, refl, ap}
use Rattle.std.specs.Prelude as Result
use mathlib.Core.List.{List}
use Prim.Native.Nat.{ℕ}
use Rattle.model.specs.Refusals.{Outcome}
use Rattle.model.specs.Calls.{Working, Result}
use Rattle.model.specs.State.{State}
use Rattle.forecast_model.specs.Forecast.{Foreseen}
use Rattle.terms.specs.Says.{finding_says, outcome_says}
use Rattle.terms.specs.declared.Refusal.{Refusal}
use Rattle.terms.specs.Lent.{state, working, left}
use Rattle.otis.specs.Outcomes.{handed, result_with}
use Rattle.forecast.specs.Left.{result_left, SidesLeft}
use Rattle.answers.specs.Answers.{Told, found_by, Handed, above_number, ForecastHanded}

-- what the tests of a call found, by its answer and by what that says
pub found-by : {A B : Type 0} (says : A → B) (answer : Result.Result A Refusal) → finding_says answer ≡ found_by (outcome_says says answer)
found-by says (Result.Ok value) = refl
found-by says (Result.Err refusal) = refl

pub told-left : {S A : Type 0} {answer : Outcome A} {state : S} {highest : List ℕ} {working : Working} {result : Result S A} {number kind place : ℕ} →
    result_with answer state highest working ≡ result → Told (found_by answer) number kind place → Handed result number kind place (left state highest working)
told-left is told = record { told = rw (ap (λ x. x.answer) is) at told; left = ap (λ x. x.left) is }

-- a forecast, whose copies and working lists stand behind references that come back
module _ (answer : Outcome Foreseen) {c z w highest p y : List ℕ} (upstream steps : ℕ) {result : Result State Foreseen}
    (is : result_left answer (state c z w) upstream steps highest (working p y) ≡ result) where
  pub forecast-left : {number kind place before after upstream' steps' : ℕ} {c' z' w' p' y' : List ℕ} →
      c' ≡ c → z' ≡ z → w' ≡ w → p' ≡ p → y' ≡ y → Told (found_by answer) number kind place →
      after ≡ handed answer (λ v. above_number v.found) before → upstream' ≡ handed answer (λ v. v.upstream) upstream → steps' ≡ handed answer (λ v. v.steps) steps →
      ForecastHanded result number kind place before after (left (state c' z' w' upstream' steps') highest (working p' y'))
  forecast-left channel storage sediment first second told above u s = record {
    told = rw (ap (λ x. x.answer) is) at told;
    above = rw (ap (λ x. x.answer) is) at above;
    left = rw (channel, storage, sediment, first, second, u, s) (ap (λ x. x.left) is);
  }

  pub forecast-sides : (sheet before after : List ℕ) → SidesLeft answer sheet before after → SidesLeft result.answer sheet before after
  forecast-sides sheet before after sides = rw (ap (λ x. x.answer) is) at sides
