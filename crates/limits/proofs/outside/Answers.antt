-- `outside` meets its contract: it is the definition's two tests.
use mathlib.Core.Path.{refl}
use Rattle.model.specs.Ranges.{outside}
use Rattle.limits.proofs.outside.Goals as goal

pub returns : goal.returns
unfolding outside
returns c = refl
