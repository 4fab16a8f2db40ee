-- `flow_row_start` meets its contract. Assumes nothing.
use Rattle.model.specs.Sheet.{flow_row_start}
use Rattle.sheet.proofs.fields.flow_row_start.Goals as goal

pub returns : goal.returns
unfolding flow_row_start
returns c = rw (← c.flow_row_count_at.ensures.0) c.record_field.ensures
