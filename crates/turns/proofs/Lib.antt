pub mod Permuted
pub mod Turns
