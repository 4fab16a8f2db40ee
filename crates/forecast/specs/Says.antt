-- "For an answer that is an enum, a definition gives this paper's number and values for each of its cases."
use Rattle.std.specs.Prelude.{List, ℕ, Result}
use Rattle.std.proofs.Math.Option.{none, some}
use Rattle.model.specs.State.{State}
use Rattle.model.specs.Refusals.{Outcome}
use Rattle.model.specs.Calls.{Working}
use Rattle.forecast_model.specs.Forecast as Document
use Rattle.forecast_model.specs.Forecast.{Foreseen}
use Rattle.terms.specs.Says.{outcome_says}
use Rattle.terms.specs.Lent.{state_of, state_lent, working_lent}
use Rattle.terms.specs.declared.Refusal.{Refusal}
use Rattle.terms.specs.declared.StateListsMut.{StateListsMut}
use Rattle.terms.specs.declared.WorkingMut.{WorkingMut}
use Rattle.forecast.specs.declared.Forecast.{Forecast}
use Rattle.forecast.specs.declared.Question.{Question}
use Rattle.forecast.specs.declared.Live.{Live}

-- the first step above is the copies' count
abbrev pub foreseen_says : Forecast → Foreseen
foreseen_says (Forecast.Above river) = record { found = some river.steps; upstream = river.upstream; steps = river.steps }
foreseen_says (Forecast.NotAbove river) = record { found = none; upstream = river.upstream; steps = river.steps }

abbrev pub forecast_says : Result Forecast Refusal → Outcome Foreseen
forecast_says = outcome_says foreseen_says

-- what a call is handed and lent, gathered as the records of `forecast_model`
abbrev pub question : (gauge limit horizon : ℕ) → Document.Question
question gauge limit horizon = record { gauge = gauge; limit = limit; horizon = horizon }

abbrev pub live_river : (n : ℕ) → State → (highest : List ℕ) → Document.Live
live_river n state highest = record { n = n; state = state; highest = highest }

abbrev pub room : (copies : State) → (highest sides : List ℕ) → Working → Document.Room
room copies highest sides working = record { copies = copies; highest = highest; sides = sides; working = working }

-- ---- lent together

abbrev pub question_says : Question → Document.Question
question_says x = question x.gauge x.limit x.horizon

abbrev pub live_of : Live → Document.Live
live_of x = live_river x.n (state_of x.state x.river.upstream x.river.steps) x.highest.now

-- U and the count of the copies are of no matter
abbrev pub room_lent : StateListsMut → (highest sides : List ℕ) → WorkingMut → (upstream steps : ℕ) → Document.Room
room_lent copies highest sides working upstream steps = room (state_lent copies upstream steps) highest sides (working_lent working)
