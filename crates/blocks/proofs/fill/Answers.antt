use native.Mathlib.Omega.{arith}
use Rattle.std.proofs.Common.{◌∙◌}
use Rattle.lists.proofs.Over.{filling-turn}
use Rattle.model.specs.Highest.{block_highest}
use Rattle.blocks.proofs.fill.Goals as goal

pub loop-b-preserved : goal.loop-b-preserved
unfolding block_highest
loop-b-preserved c =
    filling-turn c.loop-b.invariant (omega (arith, c.loop-b-test.true, c.div_ceil-b-end.ensures, c.requires.2))
    (c.highest_from.ensures ∙ rw c.min.ensures)
