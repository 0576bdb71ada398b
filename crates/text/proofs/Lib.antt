pub mod Digits
pub mod Examples
pub mod Pieces
pub mod Promises
pub mod Puts
pub mod Texts
