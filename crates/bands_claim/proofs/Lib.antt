pub mod Covering
pub mod Order
