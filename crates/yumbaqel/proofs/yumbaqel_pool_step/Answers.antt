-- `yumbaqel_pool_step` meets its contract.
use Rattle.otis.specs.Says.{river_says}
use Rattle.yumbaqel.proofs.Handed.{told-left, found-by}
use Rattle.yumbaqel.proofs.yumbaqel_pool_step.Goals as goal

pub returns : goal.returns
returns c = told-left c.step-answer.ensures (rw (found-by river_says c.step-answer.result) at c.tell.ensures.told)
