pub mod Forecast
pub mod ForecastClaim
pub mod ForecastBench
pub mod ForecastWitnesses
