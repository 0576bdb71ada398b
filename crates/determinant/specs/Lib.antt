pub mod Asks
pub mod Det
