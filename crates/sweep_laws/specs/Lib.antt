pub mod Accepted
pub mod Stable
