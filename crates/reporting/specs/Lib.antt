pub mod Asks
pub mod Said
pub mod Text
