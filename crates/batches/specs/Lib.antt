pub mod Asks
pub mod Batch
pub mod Tests
