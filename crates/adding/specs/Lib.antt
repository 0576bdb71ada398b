pub mod AddRow
pub mod Asks
pub mod RowTests
