pub mod Cuts
pub mod Firsts
pub mod Vectors
