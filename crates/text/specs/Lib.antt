pub mod Asks
pub mod Decimals
pub mod Mma
pub mod Writers
