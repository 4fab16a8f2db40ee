use mathlib.Core.Path.{refl}
use Rattle.std.specs.Prelude.{◌≡◌, length}
use native.Mathlib.Numerals.{add-one}
use native.Mathlib.Omega.{arith}
use borrow.Author.Tests.{le-leb, lt-leb}
use Rattle.model.specs.Flow.{last_begun}
use Rattle.model.specs.Upstream.{upstream_at}
use Rattle.boundary.proofs.rows.last_started.Goals.{then-starts-i, else-starts-i}
use Rattle.boundary.proofs.rows.last_started.Goals as goal

pub loop-i-init : goal.loop-i-init
unfolding last_begun
loop-i-init c = refl

pub loop-i-preserved : goal.loop-i-preserved
unfolding last_begun
loop-i-preserved c =
    elim c.if-starts-i.branch [
      | then-starts-i w ↦ rw (add-one c.loop-i.i, le-leb _ _ w.if-starts-i.true) w.found-is
      | else-starts-i w ↦ rw (w.found-is, add-one c.loop-i.i, lt-leb _ _ w.if-starts-i.false) c.loop-i.invariant
    ]

pub returns : goal.returns
unfolding upstream_at
returns c = let e : c.loop-i.i ≡ length c.args.starts.now = omega (arith, c.loop-i-test.false) in rw (← e) c.loop-i.invariant
