pub mod Dets
pub mod Fulls
pub mod Notebook
pub mod Promises
