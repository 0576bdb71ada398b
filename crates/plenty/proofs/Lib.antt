pub mod Agains
pub mod Anews
pub mod Calls
pub mod Fills
pub mod Folds
pub mod Lengths
pub mod Notebook
pub mod Rooms
