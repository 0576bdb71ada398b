pub mod Diagonals
pub mod Growths
pub mod Judgements
pub mod Notebook
pub mod Presents
pub mod Rules
pub mod Sounds
pub mod Wholes
