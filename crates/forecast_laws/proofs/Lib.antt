pub mod Passed
pub mod Found
pub mod Copies
