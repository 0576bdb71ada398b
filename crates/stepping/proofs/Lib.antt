pub mod Clears
pub mod MatrixRows
pub mod Offers
pub mod Room
pub mod Walks
