-- `yumbaqel_pool_report` meets its contract.
use Rattle.yumbaqel.proofs.yumbaqel_pool_report.Goals as goal

pub returns : goal.returns
returns c = rw c.report-answer.ensures at c.put_report.ensures
