pub mod Orders
pub mod Passed
pub mod Pointers
pub mod Starts
pub mod TripletLists
