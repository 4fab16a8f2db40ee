-- `fill` meets its contract: it writes one block after another.
use Rattle.lists.proofs.Over.{Filling}
use Rattle.model.specs.Highest.{block_highest}
use Rattle.blocks.proofs.fill.Given as goal

abbrev pub invariant-loop-b : goal.invariant-loop-b
invariant-loop-b l = Filling (block_highest l.n l.channel) l.initial.highest l.b l.highest
