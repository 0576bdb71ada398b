pub mod Above
pub mod Insertions
pub mod Moving
pub mod Passed
pub mod Promises
