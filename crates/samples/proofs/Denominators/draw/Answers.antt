-- A number of 33 bits times 2^31 fits.
use Rattle.std.proofs.Common.{◌+◌, ◌%◌, arith, pow_mono}
use Rattle.samples.proofs.Denominators.draw.Goals as goal

pub overflow_mul-result : goal.overflow_mul-result
overflow_mul-result c =
    let most = pow_mono {i = c.args.k % 33 + 1} {j = 33} (omega arith) in
    omega (arith, c.sized-in-WithExactHalves.ensures, most)
