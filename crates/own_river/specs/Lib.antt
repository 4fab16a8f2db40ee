pub mod Sides
pub mod Ready
