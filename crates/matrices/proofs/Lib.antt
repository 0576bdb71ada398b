pub mod Nights
pub mod Promises
