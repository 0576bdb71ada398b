pub mod Asks
pub mod Readers
