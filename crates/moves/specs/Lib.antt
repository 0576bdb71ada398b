pub mod Asks
pub mod Moves
pub mod Parts
