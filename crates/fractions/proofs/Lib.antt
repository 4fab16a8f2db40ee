pub mod Whole
pub mod Differences
pub mod Over
pub mod Bounds
