pub mod Asks
pub mod Faults
