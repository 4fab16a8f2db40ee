-- `yumbaqel_upstream` meets its contract.
use Rattle.yumbaqel.proofs.yumbaqel_upstream.Goals as goal

pub returns-clause-answer : goal.returns-clause-answer
returns-clause-answer c =
    let answer = c.upstream-answer.ensures in
    rw answer at c.put_upstream.ensures.told

pub returns-clause-u : goal.returns-clause-u
returns-clause-u c =
    let answer = c.upstream-answer.ensures in
    rw answer at c.put_upstream.ensures.u
