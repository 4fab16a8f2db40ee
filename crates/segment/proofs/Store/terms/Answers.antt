-- `Store::terms` meets its contract: 0 by anything is 0, and no quotient is above its number.
use mathlib.Core.Path.{◌≡◌, sym}
use native.Mathlib.Nat.{zero-mul, mul-le-mul_left}
use native.Mathlib.Omega.{arith}
use Rattle.rounding.proofs.Laws.{nearest-none, nearest-le}
use Rattle.segment.proofs.Store.terms.Goals as goal

pub returns-then-number-eq0-clause-f : goal.returns-then-number-eq0-clause-f
returns-then-number-eq0-clause-f c =
    let none : c.args.number ≡ 0 = omega arith in
    rw (none, zero-mul _) (sym (nearest-none _), omega arith)

pub returns-clause-f : goal.returns-clause-f
returns-clause-f c =
    let a = c.args in
    let quotient = rw c.from-number.ensures at c.nearest_tried.ensures in
    (quotient, rw quotient (nearest-le _ a.self.divisor a.number (omega arith) (omega (arith, mul-le-mul_left a.number c.requires.factor))))
