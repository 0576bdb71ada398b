pub mod Permutes
