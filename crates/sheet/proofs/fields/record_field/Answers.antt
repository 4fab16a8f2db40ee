-- `record_field` meets its contract. Assumes nothing.
use mathlib.Core.Path.{◌∙◌}
use native.Mathlib.Omega.{arith}
use Rattle.model.specs.Sheet.{record_field}
use Rattle.sheet.proofs.Reading.{field-far}
use Rattle.sheet.proofs.fields.record_field.Goals as goal

pub returns : goal.returns
unfolding record_field
returns c = c.field.ensures ∙ field-far _ _ _ (omega arith) (omega arith)
