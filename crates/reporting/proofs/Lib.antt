pub mod Chains
pub mod Entries
pub mod Examples
pub mod Fits
pub mod Loads
pub mod Saids
pub mod Sizes
