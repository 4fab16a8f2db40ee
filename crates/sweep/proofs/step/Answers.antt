-- `sweep::step` meets its contract: what the downward pass leaves is what the upward pass asks, and both are the step of document 01.
use Rattle.sweep.proofs.Passes.{up-ready, step_end}
use Rattle.sweep.proofs.step.Goals as goal

pub upward-requires : goal.upward-requires
upward-requires c = up-ready c.requires c.downward.ensures.lists

pub returns-clause-lists : goal.returns-clause-lists
returns-clause-lists c = step_end c.requires c.downward.ensures.lists c.upward.ensures.lists
