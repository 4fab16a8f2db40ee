-- `most_off` meets its contract: the claim holds whatever it is asked.
use Rattle.loading_laws.proofs.Loaded.{loaded-lists}
use Rattle.distance_claim.proofs.Claim.{demand3}
use Rattle.distance_claim.proofs.most_off.Goals as goal

pub returns-clause-demand3 : goal.returns-clause-demand3
returns-clause-demand3 c = demand3

pub returns-clause-loaded_lists : goal.returns-clause-loaded_lists
returns-clause-loaded_lists c = loaded-lists
