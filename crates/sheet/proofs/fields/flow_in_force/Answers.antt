use mathlib.Core.Path.{◌≡◌, sym, ◌∙◌}
use native.Mathlib.Omega.{arith}
use borrow.Author.Rules.{rules}
use Rattle.model.specs.Flow.{last_begun, flow_in_force}
use Rattle.sheet.proofs.Flows.{begun-last, begun-before}
use Rattle.sheet.proofs.fields.flow_in_force.Goals as goal

pub loop-r-init : goal.loop-r-init
unfolding flow_in_force
loop-r-init c = (rw c.flow_row_count-r.ensures, search rules)

pub returns-then-flow_row_start-j : goal.returns-then-flow_row_start-j
returns-then-flow_row_start-j c =
    sym (begun-last _ _ c.loop-r.r (omega arith) (rw c.flow_row_start.ensures at c.if-flow_row_start-j.true)) ∙ c.loop-r.invariant.0

pub loop-r-preserved : goal.loop-r-preserved
loop-r-preserved c =
    (sym (begun-before _ _ c.loop-r.r (omega arith) (rw c.flow_row_start.ensures at c.if-flow_row_start-j.false)) ∙ c.loop-r.invariant.0, omega arith)

pub returns : goal.returns
unfolding last_begun
returns c = let e : c.loop-r.r ≡ 0 = omega arith in rw e at c.loop-r.invariant.0
