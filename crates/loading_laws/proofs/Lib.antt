pub mod Sheets
pub mod AsLoaded
pub mod Loaded
