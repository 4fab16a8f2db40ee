-- `print` meets its contract: what is put, and the write that is then due.
use Rattle.river.proofs.Running.{printed-whole}
use Rattle.river.proofs.print.Goals as goal

pub returns : goal.returns
returns c = printed-whole c.requires c.put_sheet-out.ensures c.flush.ensures
