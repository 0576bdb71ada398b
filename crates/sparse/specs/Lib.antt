pub mod Asks
pub mod Lent
pub mod Matrix
pub mod Pivots
pub mod Put
pub mod Refusals
pub mod Rows
pub mod Tests
