pub mod Lengths
pub mod Promises
pub mod Reports
pub mod Solvables
pub mod Tells
pub mod Texts
pub mod Wholes
