-- `flow` meets its contract: twice 65,536 segments' gain and one segment's own fit 64 bits, and the quotient is no larger than they are.
use mathlib.Core.Path.{◌≡◌, ◌∙◌}
use native.Mathlib.Omega.{arith}
use lib.IntN.{pos, ◌+ℤ◌, ◌*ℤ◌}
use mir.Syntax.{w64}
use mir.ValLaws.{to_z-of_z}
use Rattle.rounding.specs.Floor.{floor_div}
use Rattle.model.specs.Flow.{flow}
use Rattle.halfstep.proofs.Signed.{back, back-abs, result, fits-abs, abs-sum, abs-twice, abs-twice-and, abs-floor}
use Rattle.halfstep.proofs.flow.Goals as goal

-- the quotient, with what was doubled and added read back
quotient : (c : goal.After-floor_div) → c.floor_div.result ≡ floor_div (pos 2 *ℤ c.args.gain +ℤ c.share.result) 200000
quotient c =
    let gain = c.args.gain in
    let own = c.share.result in
    let small = c.requires.1 in
    let twice = back-abs (pos 2 *ℤ gain) (omega (arith, abs-twice gain)) in
    let sum = back-abs (pos 2 *ℤ gain +ℤ own) (omega (arith, abs-twice-and gain own, c.share.ensures.1)) in
    rw (back own c.share.type_inv, back-abs gain (omega arith), twice, sum)
    at c.floor_div.ensures

pub overflow_add-result : goal.overflow_add-result
overflow_add-result c =
    let sum = pos 2 *ℤ c.args.gain +ℤ c.share.result in
    let most = abs-sum (pos c.args.top) (floor_div sum 200000) in
    let quotient = quotient c in
    rw (result c.from.type_inv c.from.ensures, result c.floor_div.type_inv quotient)
    (fits-abs _ (omega (arith, c.requires.1, c.share.ensures.1, most, abs-floor sum 200000, abs-twice-and c.args.gain c.share.result)))

pub returns : goal.returns
unfolding flow
returns c =
    let fits = overflow_add-result c in
    let quotient = quotient c in
    to_z-of_z w64 _ fits ∙ rw (result c.from.type_inv c.from.ensures, result c.floor_div.type_inv quotient, c.share.ensures.0)
