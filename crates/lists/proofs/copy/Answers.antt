use Rattle.std.proofs.Common.{arith, refl}
use Rattle.lists.proofs.Over.{filling-turn, filling-end}
use Rattle.lists.proofs.copy.Goals as goal

pub loop-i-preserved : goal.loop-i-preserved
loop-i-preserved c = filling-turn c.loop-i.invariant (omega arith) refl

pub returns : goal.returns
returns c = filling-end c.args.n c.loop-i.invariant (omega arith)
