pub mod Find
pub mod Gather
pub mod Onto
pub mod Sum
pub mod Table
