pub mod Asks
pub mod Beside
pub mod Parts
