pub mod Classes
pub mod One
