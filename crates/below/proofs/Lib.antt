pub mod Appends
pub mod Forms
pub mod Passed
pub mod Promises
pub mod Values
