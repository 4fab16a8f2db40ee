-- `run` meets its contract: no state before the last is above the limit.
use Rattle.terms.specs.Lent.{state_lent, working_lent, SameState, SameWorking}
use Rattle.forecast.proofs.Going.{Going}
use Rattle.forecast.proofs.run.Given as goal

abbrev pub invariant-loop : goal.invariant-loop
invariant-loop l = record {
  same_state : SameState l.initial.state l.state;
  same_working : SameWorking l.initial.working l.working;
  going : Going l.sheet l.n l.initial.sides (state_lent l.initial.state l.initial.river.upstream l.initial.river.steps)
      (working_lent l.initial.working) l.at l.asked.limit l.asked.horizon
      l.sides (state_lent l.state l.river.upstream l.river.steps) (working_lent l.working) l.counter;
}
