pub mod Inverses
pub mod Largest
pub mod Laws
pub mod Leaves
pub mod Primes
