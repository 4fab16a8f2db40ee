-- `Writer::due` meets its contract.
use borrow.Author.Rules.{rules}
use Rattle.std.proofs.Common.{tests}
use Rattle.output.specs.Outcomes.{due}
use Rattle.output.proofs.Writer.due.Goals as goal

pub returns-then-lost : goal.returns-then-lost
unfolding due
returns-then-lost c = search (rules, tests)

pub returns-else-lost : goal.returns-else-lost
unfolding due
returns-else-lost c = search (rules, tests)
