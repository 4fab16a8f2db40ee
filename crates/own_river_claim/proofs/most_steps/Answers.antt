-- `most_steps` meets its contract: the claims hold of every sheet.
use Rattle.own_river_claim.proofs.Claim.{own-river-steps, own-river-onwards, rows-upstream}
use Rattle.own_river_claim.proofs.Exist.{own-calls-exist}
use Rattle.own_river_claim.proofs.Near.{own-river-near}
use Rattle.own_river_claim.proofs.most_steps.Goals as goal

pub returns-clause-own_river_steps : goal.returns-clause-own_river_steps
returns-clause-own_river_steps c = own-river-steps

pub returns-clause-own_river_onwards : goal.returns-clause-own_river_onwards
returns-clause-own_river_onwards c = own-river-onwards

pub returns-clause-own_river_near : goal.returns-clause-own_river_near
returns-clause-own_river_near c = own-river-near

pub returns-clause-rows_upstream : goal.returns-clause-rows_upstream
returns-clause-rows_upstream c = rows-upstream

pub returns-clause-own_calls_exist : goal.returns-clause-own_calls_exist
returns-clause-own_calls_exist c = own-calls-exist
