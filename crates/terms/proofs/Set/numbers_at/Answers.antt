-- `Numbers::at` meets its contract.
use mathlib.Core.Path.{refl}
use Rattle.model.specs.State.{numbers_at}
use Rattle.terms.proofs.Set.numbers_at.Goals as goal

pub returns : goal.returns
unfolding numbers_at
returns c = refl
