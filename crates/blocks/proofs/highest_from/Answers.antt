use Rattle.lists.proofs.Below.{highest-start, highest-turn}
use Rattle.blocks.proofs.highest_from.Goals as goal

pub loop-j-init : goal.loop-j-init
loop-j-init c = highest-start _

pub loop-j-preserved : goal.loop-j-preserved
loop-j-preserved c = highest-turn _ _ _ _ c.loop-j.invariant c.max-top.ensures
