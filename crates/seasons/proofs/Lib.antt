pub mod Calls
pub mod Follows
pub mod Means
pub mod Widths
