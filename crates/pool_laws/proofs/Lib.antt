pub mod Packing
pub mod Tables
pub mod Pools
pub mod Answers
pub mod Openings
pub mod Witnesses
