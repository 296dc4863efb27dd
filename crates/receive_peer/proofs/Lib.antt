pub mod Found
pub mod Cases
pub mod One
