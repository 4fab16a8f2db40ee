-- The power is 2 to 2^63.
use Rattle.std.proofs.Common.{◌+◌, arith, pow_mono}
use Rattle.samples.proofs.about_a_power.Goals as goal

pub returns : goal.returns
returns c = omega (arith, c.pow.ensures, pow_mono {i = 1} {j = c.args.k + 1} (omega arith))
