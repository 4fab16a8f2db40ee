pub mod Tells
pub mod Left
pub mod Claim
pub mod PoolClaim
