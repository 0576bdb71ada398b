pub mod Asks
pub mod Dense
pub mod Left
pub mod Step
