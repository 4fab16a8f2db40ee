pub mod Shows
pub mod Claim
pub mod Near
pub mod PoolClaim
pub mod Witnesses
