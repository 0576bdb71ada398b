pub mod Asks
pub mod Below
pub mod Parts
