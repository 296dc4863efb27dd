pub mod Growing
pub mod One
