use Rattle.std.proofs.Common.{◌≡◌, cond, ap, ◌∙◌, arith}
use Rattle.lists.proofs.Below.{sum-start, sum-turn}
use Rattle.model.specs.Pool.{Slot, is_open, open_segments}
use Rattle.pool_table.proofs.open_segments.Goals as goal

pub loop-i-init : goal.loop-i-init
loop-i-init c = record { is = sum-start _; small = omega arith }

pub loop-i-preserved : goal.loop-i-preserved
loop-i-preserved c = record {
  is = sum-turn _ _ _ _ c.loop-i.invariant.is (c.open_segments-sum.ensures.0 ∙ ap (λ (x : Slot). cond (is_open x) x.segments 0) c.taken.ensures);
  small = omega arith;
}

pub returns : goal.returns
unfolding open_segments
returns c = let e : c.loop-i.i ≡ 8 = omega arith in (rw e at c.loop-i.invariant.is, omega arith)
