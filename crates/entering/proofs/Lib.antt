pub mod Enters
pub mod Promises
