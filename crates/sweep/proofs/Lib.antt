pub mod Tables
pub mod River
pub mod DownPass
pub mod UpPass
pub mod Passes
