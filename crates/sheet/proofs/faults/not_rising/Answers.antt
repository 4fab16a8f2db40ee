-- `not_rising` meets its contract: the first entry and any other. Assumes nothing.
use Rattle.lists.specs.Lists.{not_rising}
use Rattle.lists.proofs.Shorter.{not-rising}
use Rattle.sheet.proofs.faults.not_rising.Goals as goal

pub returns-in-None : goal.returns-in-None
unfolding not_rising
returns-in-None c = λ list j b v. rw (rw c.in-None.is at b)

pub returns-in-Some : goal.returns-in-Some
returns-in-Some c = λ list j b v. let p = rw c.in-Some.is at b in rw (not-rising list j p.0, v, p.1)
