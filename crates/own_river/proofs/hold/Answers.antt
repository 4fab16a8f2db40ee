-- `hold` meets its contract: the new side is filled, and its set kept for the old one.
use Rattle.model.proofs.FlowRows.{in-force-known}
use Rattle.own_river.proofs.Stepping.{held-sides}
use Rattle.own_river.proofs.hold.Goals as goal

pub fill-requires : goal.fill-requires
fill-requires c = (c.requires.0, rw c.flow_in_force.ensures (in-force-known _ _), c.requires.1)

pub returns : goal.returns
returns c =
    held-sides _ _ c.args.steps _ _ _ _ c.requires.0.count c.requires.1 c.flow_in_force.ensures c.fill.ensures c.keep.ensures
