pub mod Promises
pub mod RowsTested
pub mod Takes
