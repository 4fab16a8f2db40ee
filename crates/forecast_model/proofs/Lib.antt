pub mod ForecastBench
pub mod ForecastWitnesses
