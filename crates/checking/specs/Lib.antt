pub mod Asks
pub mod Check
pub mod Rows
