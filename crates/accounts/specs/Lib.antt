pub mod Account
pub mod Judgement
pub mod Rule
pub mod Tests
