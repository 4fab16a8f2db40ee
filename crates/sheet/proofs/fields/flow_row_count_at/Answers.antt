-- `flow_row_count_at` meets its contract. Assumes nothing.
use native.Mathlib.Omega.{arith}
use Rattle.model.specs.Sheet.{count_at, sections_end, sections}
use Rattle.sheet.proofs.fields.flow_row_count_at.Goals as goal

pub returns : goal.returns
unfolding count_at sections_end sections
returns c = (rw (← c.gauge_count_at.ensures.0) c.section_end.ensures.0, omega arith)
