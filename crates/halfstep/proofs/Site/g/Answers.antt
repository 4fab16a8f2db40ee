-- `Site::g` meets its contract: test 11 leaves a difference that is not below 0, and at most 2 × 10^12.
use native.Mathlib.Omega.{arith}
use Rattle.model.specs.HalfStep.{fractions, numbers}
use Rattle.rounding.proofs.Laws.{nearest-none}
use Rattle.halfstep.specs.Site.{site_says}
use Rattle.halfstep.proofs.Sites.{face-range}
use Rattle.halfstep.proofs.Site.g.Goals as goal

pub returns-then-self : goal.returns-then-self
unfolding numbers fractions
returns-then-self c = rw c.if-self.true (rw (nearest-none))

pub overflow_sub-ad : goal.overflow_sub-ad
overflow_sub-ad c = omega (arith, face-range (site_says c.args.self) c.requires.face)
