pub mod Asks
pub mod Faults
pub mod Grammar
pub mod Parse
pub mod Places
pub mod Tests
