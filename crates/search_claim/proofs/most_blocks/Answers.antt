-- `most_blocks` meets its contract: the claims hold of every list of calls.
use Rattle.search_claim.proofs.Claim.{search-told}
use Rattle.search_claim.proofs.PoolClaim.{pool-search-told}
use Rattle.search_claim.proofs.most_blocks.Goals as goal

pub returns-clause-search_told : goal.returns-clause-search_told
returns-clause-search_told c = search-told

pub returns-clause-pool_search_told : goal.returns-clause-pool_search_told
returns-clause-pool_search_told c = pool-search-told
