pub mod Asks
pub mod Puts
