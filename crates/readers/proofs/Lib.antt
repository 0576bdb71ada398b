pub mod Identities
pub mod LastRows
pub mod Promises
