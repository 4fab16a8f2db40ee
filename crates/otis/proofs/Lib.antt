pub mod Starting
pub mod Reporting
pub mod Stepping
