pub mod Calls
pub mod Tests
