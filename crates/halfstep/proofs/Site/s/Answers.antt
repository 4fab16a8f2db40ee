-- `Site::s` meets its contract: where h is at most one whole, dt × LAMHAT is at most 2 × 10^9 (`at_most_one`), so that
-- dt × LAMHAT × RHO × Kd is at most 2 × 10^18.
use Prim.Native.Nat.{ℕ, ◌*◌, ◌<◌, ◌≤◌, ◌^◌}
use native.Mathlib.Nat.{mul-le-mul, mul-le-mul_left}
use native.Mathlib.Omega.{arith}
use Rattle.model.specs.HalfStep.{fractions, numbers}
use Rattle.rounding.specs.Nearest.{S, parts}
use Rattle.rounding.proofs.Laws.{rounds}
use Rattle.halfstep.proofs.Site.s.Goals as goal

-- a fraction with at most one whole of parts is at most 1
at_most_one : (n d : ℕ) → 0 < d → d < 2 * S → parts n d ≤ S → n ≤ d
at_most_one n d h small q = omega (arith, rounds (n * S) d h, mul-le-mul_left d q)

pub overflow_mul-product-2 : goal.overflow_mul-product-2
unfolding numbers fractions
overflow_mul-product-2 c =
    let s = c.args.self in
    let n = s.dt * s.own.lamhat in
    let rate : c.product.result ≤ 2 * 10 ^ 9 = omega (arith, at_most_one n (2 * 10 ^ 9) (omega arith) (omega arith) (omega arith)) in
    let with_rho : c.product.result * s.own.rho ≤ 2 * 10 ^ 15 = omega (arith, mul-le-mul rate c.requires.0.ranges.rho) in
    rw (c.from-2.ensures, c.from-3.ensures) (omega (arith, mul-le-mul with_rho c.requires.0.ranges.kd))
