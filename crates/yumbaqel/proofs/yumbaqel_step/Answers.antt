-- `yumbaqel_step` meets its contract.
use Rattle.yumbaqel.proofs.Handed.{told-left}
use Rattle.yumbaqel.proofs.yumbaqel_step.Goals as goal

pub returns : goal.returns
returns c =
    let put = c.put_river.ensures in
    rw (put.upstream, put.done) (told-left c.step-answer.ensures put.told)
