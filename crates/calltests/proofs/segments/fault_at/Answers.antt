-- `segments::fault_at` meets its contract.
use mathlib.Core.Path.{sym}
use Rattle.model.specs.State.{segment_at}
use Rattle.calltests.proofs.RiverLaws.{start-fault-at}
use Rattle.calltests.proofs.segments.fault_at.Goals as goal

pub returns : goal.returns
unfolding segment_at
returns c = sym (start-fault-at _ _ _ _ (rw (← c.numbers_at.ensures) (sym c.segment_fault.ensures)))
