pub mod Clauses
pub mod TripletClauses
