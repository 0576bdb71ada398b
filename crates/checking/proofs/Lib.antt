pub mod Promises
pub mod Slices
pub mod Sounds
pub mod Turns
pub mod Verdicts
