pub mod Asks
pub mod Back
