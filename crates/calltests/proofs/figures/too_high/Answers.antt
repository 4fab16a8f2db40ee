-- `figures::too_high` meets its contract.
use mathlib.Core.Path.{sym}
use Rattle.calltests.proofs.Outside.{outside-top}
use Rattle.calltests.proofs.figures.too_high.Goals as goal

pub returns : goal.returns
returns c = sym (outside-top 1000000000 c.args.x)
