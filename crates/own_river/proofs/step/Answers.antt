-- `step` meets its contract: the sides of the step, the sweep, and the sides behind it.
use Rattle.model.proofs.FlowRows.{in-force-known}
use Rattle.own_river.proofs.Stepping.{for-step, behind-step, ready_with, stepped-with, sweep-ready, own-step}
use Rattle.own_river.proofs.step.Goals as goal

pub fill_other-requires : goal.fill_other-requires
fill_other-requires c = (c.requires.0.of_sheet, rw c.flow_in_force-flow.ensures (in-force-known _ _), c.requires.0.in_force.wide)

pub step-requires : goal.step-requires
step-requires c =
    let held = for-step c.args.sheet.now c.args.river.steps _ _ _ _ c.flow_in_force-held.ensures c.flow_in_force-flow.ensures c.fill_other.ensures in
    ready_with c.old.ensures c.new.ensures (sweep-ready _ _ _ _ _ _ _ c.requires.0 held c.requires.2)

pub returns-clause-stepped : goal.returns-clause-stepped
returns-clause-stepped c =
    let held = for-step c.args.sheet.now c.args.river.steps _ _ _ _ c.flow_in_force-held.ensures c.flow_in_force-flow.ensures c.fill_other.ensures in
    let kept = behind-step c.args.sheet.now c.args.river.steps _ _ _ _ c.flow_in_force-held.ensures c.flow_in_force-flow.ensures c.keep_other.ensures in
    own-step _ _ _ _ _ _ _ c.requires.0 held c.requires.2 _ _ _ _ _ _ (stepped-with c.old.ensures c.new.ensures c.step.ensures.lists) kept
