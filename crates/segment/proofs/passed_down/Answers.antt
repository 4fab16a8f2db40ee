-- `passed_down` meets its contract: the row of an accepted segment is fit.
use Rattle.segment.proofs.Bounds.{ready-fit}
use Rattle.segment.proofs.passed_down.Goals as goal

pub pass-requires : goal.pass-requires
pass-requires c = record { fit = rw c.row.ensures.row (ready-fit c.requires.ready); stable = c.requires.stable }
