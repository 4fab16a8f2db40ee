use mathlib.Core.Path.{◌≡◌, sym, ◌∙◌}
use native.Mathlib.Omega.{arith}
use borrow.Author.Rules.{rules}
use Rattle.model.specs.Sheet.{row_count}
use Rattle.model.specs.Flow.{last_begun}
use Rattle.sheet.proofs.Flows.{begun-last, begun-before}
use Rattle.own_river.proofs.LastRow.{start_of, upstream-row, upstream-none}
use Rattle.own_river.proofs.rows.upstream_at.Goals as goal

pub loop-r-init : goal.loop-r-init
loop-r-init c = (rw c.row_count-r.ensures, rw c.row_count-r.ensures (omega arith), search rules)

pub returns-then-row_start-j : goal.returns-then-row_start-j
returns-then-row_start-j c =
    let e = begun-last _ (start_of _) c.loop-r.r (omega arith) (rw c.row_start.ensures at c.if-row_start-j.true) in
    c.row_concentration.ensures ∙ upstream-row _ _ c.loop-r.r (omega arith) c.loop-r.invariant.1 (sym c.loop-r.invariant.0 ∙ e)

pub loop-r-preserved : goal.loop-r-preserved
loop-r-preserved c =
    (sym (begun-before _ (start_of _) c.loop-r.r (omega arith) (rw c.row_start.ensures at c.if-row_start-j.false)) ∙ c.loop-r.invariant.0, omega (arith, c.loop-r.invariant.1), omega arith)

pub returns : goal.returns
unfolding last_begun
returns c = let e : c.loop-r.r ≡ 0 = omega arith in upstream-none _ _ (sym (rw e at c.loop-r.invariant.0))
