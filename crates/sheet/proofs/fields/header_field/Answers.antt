-- `header_field` meets its contract. Assumes nothing.
use mathlib.Core.Path.{◌∙◌}
use native.Mathlib.Omega.{arith}
use Rattle.model.specs.Sheet.{header_field}
use Rattle.sheet.proofs.Reading.{field-far}
use Rattle.sheet.proofs.fields.header_field.Goals as goal

pub returns : goal.returns
unfolding header_field
returns c = c.field.ensures ∙ field-far _ _ _ (omega arith) (omega arith)
