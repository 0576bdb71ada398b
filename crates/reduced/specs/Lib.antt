pub mod Building
pub mod Order
pub mod Reduced
