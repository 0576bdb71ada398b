pub mod Columns
pub mod Cursors
pub mod Joined
pub mod Passed
pub mod Promises
pub mod Sizes
pub mod Values
