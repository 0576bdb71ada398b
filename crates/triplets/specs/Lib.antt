pub mod Asks
pub mod Triplets
