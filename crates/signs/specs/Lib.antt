pub mod Asks
pub mod Value
