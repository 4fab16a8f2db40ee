-- `most_horizon` meets its contract: the claims hold of every forecast.
use Rattle.forecast_claim.proofs.Claim.{forecast-says}
use Rattle.forecast_claim.proofs.Near.{forecast-near}
use Rattle.forecast_claim.proofs.PoolClaim.{pool-forecast-says}
use Rattle.forecast_claim.proofs.most_horizon.Goals as goal

pub returns-clause-forecast_says : goal.returns-clause-forecast_says
returns-clause-forecast_says c = forecast-says

pub returns-clause-forecast_near : goal.returns-clause-forecast_near
returns-clause-forecast_near c = forecast-near

pub returns-clause-pool_forecast_says : goal.returns-clause-pool_forecast_says
returns-clause-pool_forecast_says c = pool-forecast-says
