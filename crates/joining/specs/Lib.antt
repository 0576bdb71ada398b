pub mod Asks
pub mod Joined
