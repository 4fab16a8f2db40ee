pub mod Tests
pub mod Gauges
pub mod Going
pub mod Looking
pub mod Answers
