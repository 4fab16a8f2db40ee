pub mod TestsInTurn
pub mod LoadTests
