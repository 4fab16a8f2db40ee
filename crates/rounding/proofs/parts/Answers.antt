use mathlib.Core.Path.{◌≡◌, ap}
use Prim.Native.Nat.{ℕ, suc, ◌+◌, ◌*◌, ◌^◌, ◌≤◌}
use native.Mathlib.Nat.{mul-le-mul_left, pow-zero, pow-suc, pow-le-pow_right}
use native.Mathlib.Numerals.{add-one}
use native.Mathlib.Omega.{arith}
use Rattle.rounding.specs.Nearest.{S}
use Rattle.rounding.proofs.Laws.{nearest-ge}
use Rattle.rounding.proofs.parts.Goals as goal

-- some of the digits make at most one whole
power_le : (b t i : ℕ) → 2 ≤ b → b ^ t ≡ S → i ≤ t → b ^ i ≤ S
power_le b t i h whole l = rw whole at (pow-le-pow_right {n = b} (omega arith) l)

pub returns-in_default : goal.returns-in_default
returns-in_default c =
    let n = c.args.n in
    let d = c.args.d in
    let two : 2 * d ≤ n = c.in_default.ensures.none in
    let whole : d * (S + 1) ≤ n * S = omega arith in
    omega (arith, nearest-ge (n * S) d (S + 1) c.requires whole)

pub loop-init : goal.loop-init
loop-init c = let s = c.in-Some.ensures.some in rw pow-zero (s.1, omega (arith, s.0), omega (arith, s.2))

pub times-split-requires : goal.times-split-requires
times-split-requires c =
    let radix = c.new-radix in
    let l = c.loop in
    let b = radix.result.base in
    let next = rw (pow-suc b l.counter) at (power_le b radix.result.digits (suc l.counter) radix.ensures.1 radix.ensures.0 c.loop-test.true) in
    (omega (arith, next, mul-le-mul_left b l.invariant.2), radix.ensures.1, rw l.invariant.0 radix.ensures.2)

pub loop-preserved : goal.loop-preserved
loop-preserved c =
    let l = c.loop in
    let b = c.new-radix.result.base in
    let sum = ap (λ (x : ℕ). b * x) l.invariant.1 in
    let next = rw l.invariant.0 at c.times-split.ensures in
    rw (add-one, pow-suc) (next.1, omega (arith, next.0, sum), omega (arith, next.2, mul-le-mul_left b l.invariant.2))

pub rounded-requires : goal.rounded-requires
rounded-requires c =
    let radix = c.new-radix in
    let l = c.loop in
    λ rest. omega (arith, power_le radix.result.base radix.result.digits l.counter radix.ensures.1 radix.ensures.0 l.auto.counter-end, l.invariant.2)
