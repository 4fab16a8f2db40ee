-- `segment::raised` meets its contract: y + p is at most one whole, and so is C'.
use mathlib.Core.Path.{refl}
use native.Mathlib.Omega.{arith}
use Rattle.sweep_laws.proofs.Passes.{on_top-most, product-fits}
use Rattle.segment.proofs.raised.Goals as goal

pub overflow_mul-d : goal.overflow_mul-d
overflow_mul-d c = omega (arith, product-fits _ _ c.requires.stable c.requires.most_below)

pub overflow_add-result : goal.overflow_add-result
overflow_add-result c = omega (arith, c.nearest.ensures, on_top-most _ _ c.requires.stable c.requires.most_below)

pub returns : goal.returns
returns c = rw c.nearest.ensures (refl, on_top-most _ _ c.requires.stable c.requires.most_below)
