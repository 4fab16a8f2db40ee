-- `flow_row_top` meets its contract. Assumes nothing.
use Rattle.model.specs.Sheet.{flow_row_top}
use Rattle.sheet.proofs.fields.flow_row_top.Goals as goal

pub returns : goal.returns
unfolding flow_row_top
returns c = rw (← c.flow_row_count_at.ensures.0) c.record_field.ensures
