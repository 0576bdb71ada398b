pub mod Asks
pub mod Rows
