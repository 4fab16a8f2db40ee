-- `share` meets its contract: the difference is within 10^8 either way, the product within 10^12 (`abs-gain`).
use mathlib.Core.Path.{refl}
use native.Mathlib.Omega.{arith}
use lib.IntN.{pos, ◌-ℤ◌, ◌*ℤ◌}
use Rattle.model.specs.Flow.{own_gain}
use Rattle.terms.specs.Says.{reach_says}
use Rattle.halfstep.proofs.Signed.{result, back-abs, abs_diff, abs-gain}
use Rattle.halfstep.proofs.share.Goals as goal

pub returns : goal.returns
unfolding own_gain
returns c =
    let own = c.args.own in
    let less = pos own.qin -ℤ pos own.qout in
    let gain = abs-gain (reach_says own) c.args.dx (omega arith) (omega arith) (omega arith) in
    rw (result c.from.type_inv c.from.ensures, result c.from-2.type_inv c.from-2.ensures, result c.from-3.type_inv c.from-3.ensures)
    (rw (back-abs less (omega (arith, abs_diff own.qin own.qout 100000000 (omega arith) (omega arith))))
    (rw (back-abs (less *ℤ pos c.args.dx) (omega (arith, gain))) (refl, gain)))
