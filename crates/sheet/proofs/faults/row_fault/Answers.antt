-- `row_fault` meets its contract: it is the three parts of the rule. Assumes nothing.
use Rattle.model.specs.Load.{row_fault}
use Rattle.sheet.proofs.faults.row_fault.Goals as goal

pub returns : goal.returns
unfolding row_fault
returns c = λ starts concentrations j row.
    rw (
      c.starts_late.ensures starts j row.before_is row.start_is,
      c.outside.ensures,
      c.from.ensures,
      row.start_is,
      row.figure_is,
    )
