-- `top_of` meets its contract, of the flow at the top and of a row. Assumes nothing.
use mathlib.Core.Path.{◌∙◌}
use native.Mathlib.Omega.{arith}
use Rattle.sheet.proofs.Flows.{top-first, top-row}
use Rattle.sheet.proofs.fields.top_of.Goals as goal

pub returns-then-r-eq0 : goal.returns-then-r-eq0
returns-then-r-eq0 c = c.top_flow.ensures ∙ top-first _ _ c.if-r-eq0.true

pub returns : goal.returns
returns c = c.flow_row_top.ensures ∙ top-row _ _ (omega arith)
