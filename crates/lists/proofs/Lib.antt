pub mod Lowest
pub mod Tab
pub mod Over
pub mod Shorter
pub mod Either
pub mod Below
pub mod Stretch
pub mod AnyBelow
