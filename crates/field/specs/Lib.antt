pub mod Asks
pub mod Inverse
pub mod Prime
