pub mod Anews
pub mod Calls
pub mod Folds
pub mod Runs
