-- `flow_row_fault` meets its contract: it is the three parts of the rule. Assumes nothing.
use Rattle.model.specs.Load.{flow_row_fault}
use Rattle.sheet.proofs.faults.flow_row_fault.Goals as goal

pub returns : goal.returns
unfolding flow_row_fault
returns c = λ starts tops j row.
    rw (
      c.outside-late.ensures,
      c.from.ensures,
      c.not_rising.ensures starts j row.before_is row.start_is,
      c.outside.ensures,
      c.from-2.ensures,
      row.start_is,
      row.figure_is,
    )
