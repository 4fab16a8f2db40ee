pub mod Says
pub mod Tests
pub mod Left
