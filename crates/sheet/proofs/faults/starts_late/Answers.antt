-- `starts_late` meets its contract: the first row and any other. Assumes nothing.
use Rattle.lists.proofs.Shorter.{not-rising}
use Rattle.sheet.proofs.Entries.{late-first, late-next}
use Rattle.sheet.proofs.faults.starts_late.Goals as goal

pub returns-in-None : goal.returns-in-None
returns-in-None c = λ starts j b s. late-first starts j _ s (rw c.in-None.is at b)

pub returns-in-Some : goal.returns-in-Some
returns-in-Some c = λ starts j b s.
    let p = rw c.in-Some.is at b in rw (← late-next starts j p.0, not-rising starts j p.0, s, p.1)
