-- `copy_highest` meets its contract.
use Rattle.forecast.proofs.Looking.{highest-copied, highest-filled}
use Rattle.forecast.proofs.copy_highest.Goals as goal

pub copy-requires : goal.copy-requires
copy-requires c =
    (rw c.count.ensures c.requires.1, rw c.count.ensures c.requires.3)

pub returns-then-made-eq0 : goal.returns-then-made-eq0
returns-then-made-eq0 c =
    highest-copied _ _ _ _ _ _ c.if-made-eq0.true c.count.ensures c.copy.ensures

pub returns-else-made-eq0 : goal.returns-else-made-eq0
returns-else-made-eq0 c = highest-filled _ _ _ _ _ c.if-made-eq0.false c.fill.ensures
