pub mod HalfRows
pub mod Named
pub mod Promises
pub mod Rights
pub mod SortPassed
pub mod Totals
