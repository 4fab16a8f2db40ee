pub mod Calls
pub mod Claim
pub mod Exist
pub mod Near
