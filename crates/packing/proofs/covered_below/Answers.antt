use Rattle.std.proofs.Common.{true, false, sym, ◌∙◌, arith}
use Rattle.terms.specs.Lent.{table_in}
use Rattle.pool_laws.proofs.Packing.{below-start, below-turn, below-most}
use Rattle.packing.proofs.covered_below.Goals as goal
use Rattle.packing.proofs.covered_below.Goals.{then-is_covered, else-is_covered}

pub loop-s-init : goal.loop-s-init
loop-s-init c = below-start _

pub overflow_add-to : goal.overflow_add-to
overflow_add-to c = omega (arith, c.loop-s.invariant, below-most (table_in c.args.table) c.loop-s.s, c.loop-s-test.true, c.ranges.end)

pub loop-s-preserved : goal.loop-s-preserved
loop-s-preserved c =
    elim c.if-is_covered.branch [
      | then-is_covered w ↦ below-turn _ _ _ _ true c.loop-s.invariant (sym w.if-is_covered.true ∙ c.is_covered.ensures) w.to-is
      | else-is_covered w ↦ below-turn _ _ _ _ false c.loop-s.invariant (sym w.if-is_covered.false ∙ c.is_covered.ensures) w.to-is
    ]
