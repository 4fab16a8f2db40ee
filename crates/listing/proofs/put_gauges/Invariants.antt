-- `put_gauges` meets its contract: the lines of the first j gauges are put.
use Rattle.terms.specs.Lent.{state_of}
use Rattle.output.specs.Outcomes.{Lines}
use Rattle.listing.proofs.Gauges.{first_lines}
use Rattle.listing.proofs.put_gauges.Given as goal

abbrev pub invariant-loop-j : goal.invariant-loop-j
invariant-loop-j l = Lines (first_lines l.sheet (state_of l.state l.river.upstream l.river.steps) l.j) l.initial.out l.out
