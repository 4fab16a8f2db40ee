-- `run` meets its contract: the lines put are those of the steps made.
use Rattle.terms.specs.Lent.{state_lent, working_lent}
use Rattle.river.proofs.Running.{Going}
use Rattle.river.proofs.run.Given as goal

abbrev pub invariant-loop-done : goal.invariant-loop-done
invariant-loop-done l =
    Going l.sheet l.n l.initial.sides (state_lent l.initial.state l.initial.river.upstream l.initial.river.steps) (working_lent l.initial.working) l.initial.out
    l.sides (state_lent l.state l.river.upstream l.river.steps) (working_lent l.working) l.out l.done
