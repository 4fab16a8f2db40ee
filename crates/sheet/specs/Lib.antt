pub mod Editions
pub mod Entries
pub mod Rows
pub mod Walks
