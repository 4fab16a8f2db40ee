pub mod Signed
pub mod Sums
pub mod Sites
