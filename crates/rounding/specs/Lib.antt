pub mod Nearest
pub mod Floor
