-- x % 2^k is below 2^k, and the sum below twice as much.
use Rattle.std.proofs.Common.{◌<◌, mod-lt, pow-suc, add-one, arith, pow_pos}
use Rattle.samples.proofs.sized.Goals as goal

pub returns : goal.returns
returns c =
    let k = c.args.k in
    let least = c.pow-least in
    let positive : 0 < least.result = rw least.ensures (pow_pos k) in
    rw (add-one, pow-suc) (omega (arith, mod-lt c.args.x positive, pow_pos k, least.ensures))
