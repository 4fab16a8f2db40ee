-- `most_rivers` meets its contract: the claims hold of every pool.
use Rattle.pool_claim.proofs.Claim.{sharing}
use Rattle.pool_claim.proofs.OpenedLists.{opened-lists}
use Rattle.pool_claim.proofs.most_rivers.Goals as goal

pub returns-clause-sharing : goal.returns-clause-sharing
returns-clause-sharing c = sharing

pub returns-clause-opened_lists : goal.returns-clause-opened_lists
returns-clause-opened_lists c = opened-lists
