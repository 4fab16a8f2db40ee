-- `field` meets its contract: four bytes, of which those past the end are 0. Assumes nothing.
use mathlib.Core.Path.{sym, ◌∙◌}
use native.Mathlib.Omega.{arith}
use Rattle.model.specs.Sheet.{field}
use Rattle.sheet.proofs.Reading.{byte-far, field_past}
use Rattle.sheet.proofs.fields.field.Goals as goal

pub returns-then-sheet-at : goal.returns-then-sheet-at
returns-then-sheet-at c = sym (field_past _ _ c.if-sheet-at.true)

pub returns-then-sheet-at-ge4 : goal.returns-then-sheet-at-ge4
unfolding field
returns-then-sheet-at-ge4 c = rw c.from_le_bytes.ensures (omega arith)

pub returns : goal.returns
unfolding field
returns c =
    let sheet = c.args.sheet.now in
    let at = c.args.at in
    rw (
      c.from_le_bytes-2.ensures,
      c.byte.ensures,
      c.byte-2.ensures ∙ byte-far sheet at 1 (omega arith) c.saturating_add.ensures,
      c.byte-3.ensures ∙ byte-far sheet at 2 (omega arith) c.saturating_add-2.ensures,
      c.byte-4.ensures ∙ byte-far sheet at 3 (omega arith) c.saturating_add-3.ensures,
    )
    (omega arith)
