pub mod Fault
pub mod Figures
