pub mod Accepted
pub mod Lengths
pub mod Passes
pub mod Solves
