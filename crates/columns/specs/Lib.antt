pub mod Asks
pub mod Positions
