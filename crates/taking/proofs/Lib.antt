pub mod Storing
pub mod Takings
pub mod Walks
