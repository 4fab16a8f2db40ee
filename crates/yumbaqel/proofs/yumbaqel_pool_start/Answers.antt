-- `yumbaqel_pool_start` meets its contract.
use Rattle.otis.specs.Says.{river_says}
use Rattle.yumbaqel.proofs.Handed.{told-left, found-by}
use Rattle.yumbaqel.proofs.yumbaqel_pool_start.Goals as goal

pub returns : goal.returns
returns c = told-left c.start-answer.ensures (rw (found-by river_says c.start-answer.result) at c.tell.ensures.told)
