pub mod Outside
pub mod Found
pub mod RiverLaws
pub mod StateTests
