pub mod Putting
pub mod Lines
pub mod Decimal
pub mod Lengths
pub mod Listing
pub mod Alike
pub mod Made
