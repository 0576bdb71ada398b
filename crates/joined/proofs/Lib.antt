pub mod Below
pub mod Beside
pub mod Beyond
pub mod Examples
pub mod Passed
