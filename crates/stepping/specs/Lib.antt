pub mod After
pub mod Asks
pub mod Take
