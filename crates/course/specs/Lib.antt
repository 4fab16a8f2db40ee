pub mod Segments
pub mod Tests
pub mod Descent
pub mod Walk
