pub mod Says
pub mod Outcomes
