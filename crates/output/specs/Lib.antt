pub mod Text
pub mod Listing
pub mod Outcomes
pub mod Bench
