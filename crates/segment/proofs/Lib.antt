pub mod Bounds
pub mod NoSorption
