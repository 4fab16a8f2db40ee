pub mod Ahead
pub mod Sheets
pub mod Standing
