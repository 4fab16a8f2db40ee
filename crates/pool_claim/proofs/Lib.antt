pub mod Lengths
pub mod Answers
pub mod Opens
pub mod Follows
pub mod Opening
pub mod Calls
pub mod Claim
pub mod OpenedLists
