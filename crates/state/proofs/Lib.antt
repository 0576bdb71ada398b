pub mod Faults
pub mod FreshStates
pub mod Promises
pub mod Rooms
pub mod Starts
