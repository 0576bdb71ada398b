pub mod Means
pub mod Own
pub mod Taken
