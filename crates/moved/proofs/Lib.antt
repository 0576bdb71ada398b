pub mod Examples
pub mod Orders
pub mod ReversedIdentity
pub mod RightHalves
pub mod SortedRows
