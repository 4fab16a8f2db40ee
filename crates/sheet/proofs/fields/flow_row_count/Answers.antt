-- `flow_row_count` meets its contract, on a sheet with flow rows and on one without. Assumes nothing.
use Rattle.model.specs.Sheet.{flow_row_count}
use Rattle.sheet.specs.declared.editions.Mark.TheVariants.{Otr2}
use Rattle.sheet.proofs.Marked.{since-mark}
use Rattle.sheet.proofs.fields.flow_row_count.Goals as goal

pub returns-then-lt : goal.returns-then-lt
unfolding flow_row_count
returns-then-lt c = rw (since-mark c.edition.result c.edition.ensures Otr2 c.lt.ensures c.if-lt.true)

pub returns : goal.returns
unfolding flow_row_count
returns c =
    rw (since-mark c.edition.result c.edition.ensures Otr2 c.lt.ensures c.if-lt.false, ← c.flow_row_count_at.ensures.0) c.field.ensures
