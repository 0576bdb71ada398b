pub mod Folds
pub mod Nexts
