pub mod Asks
pub mod Fresh
pub mod Memory
pub mod Room
pub mod State
