pub mod Asks
pub mod Report
pub mod Work
