pub mod Asks
pub mod Rows
pub mod Stores
