pub mod Judged
pub mod Multiples
pub mod Names
