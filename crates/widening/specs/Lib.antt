pub mod AddCols
pub mod Asks
pub mod Inserted
