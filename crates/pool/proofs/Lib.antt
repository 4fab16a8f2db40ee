pub mod Opened
pub mod Stretched
