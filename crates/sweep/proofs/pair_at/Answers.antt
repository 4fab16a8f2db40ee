-- `sweep::pair_at` meets its contract.
use Rattle.model.specs.State.{pair_at}
use Rattle.sweep.proofs.pair_at.Goals as goal

pub returns : goal.returns
unfolding pair_at
returns c = rw (c.numbers_at.ensures, c.numbers_at-2.ensures)
