pub mod Parts
pub mod LastRow
pub mod Stepping
