pub mod Added
pub mod History
pub mod Rows
pub mod Setting
