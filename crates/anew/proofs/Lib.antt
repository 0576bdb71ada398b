pub mod Anews
pub mod Promises
