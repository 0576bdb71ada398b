pub mod Asks
pub mod Gathers
pub mod Lasts
