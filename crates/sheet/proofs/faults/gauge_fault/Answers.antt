-- `gauge_fault` meets its contract: it is the parts of the rule. Assumes nothing.
use Rattle.model.specs.Ranges.{outside}
use Rattle.model.specs.Load.{gauge_fault}
use Rattle.sheet.proofs.faults.gauge_fault.Goals as goal

pub returns : goal.returns
unfolding gauge_fault outside
returns c = λ gauges j g. rw (c.not_rising.ensures gauges j g.before_is g.gauge_is, g.gauge_is)
