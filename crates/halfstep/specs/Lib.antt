pub mod Ranges
pub mod Site
