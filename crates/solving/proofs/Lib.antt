pub mod Notebook
pub mod Promises
pub mod Solves
pub mod Wholes
