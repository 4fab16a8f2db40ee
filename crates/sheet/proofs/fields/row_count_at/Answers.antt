-- `row_count_at` meets its contract. Assumes nothing.
use native.Mathlib.Omega.{arith}
use Rattle.model.specs.Sheet.{sections_end, count_at, sections}
use Rattle.sheet.proofs.fields.row_count_at.Goals as goal

pub returns : goal.returns
unfolding count_at sections_end sections
returns c = (c.section_end.ensures.0, omega arith)
