pub mod Tests
pub mod Distance
pub mod Unique
pub mod Reports
pub mod Claim
