use Rattle.std.proofs.Common.{true, false, sym, ◌∙◌, arith}
use Rattle.pool_laws.proofs.Packing.{packing-start, packing-turn}
use Rattle.packing.proofs.pack.Goals as goal
use Rattle.packing.proofs.pack.Goals.{then-is_covered, else-is_covered}

pub loop-s-init : goal.loop-s-init
loop-s-init c = packing-start

pub loop-s-preserved : goal.loop-s-preserved
loop-s-preserved c =
    elim c.if-is_covered.branch [
      | then-is_covered w ↦ packing-turn c.loop-s.invariant (omega arith) true (sym w.if-is_covered.true ∙ c.is_covered.ensures) w.list-is w.to-is
      | else-is_covered w ↦ packing-turn c.loop-s.invariant (omega arith) false (sym w.if-is_covered.false ∙ c.is_covered.ensures) w.list-is w.to-is
    ]
