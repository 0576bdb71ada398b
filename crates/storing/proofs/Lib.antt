pub mod Gathering
pub mod LowerRows
pub mod UpperRows
