pub mod Says
pub mod Ready
