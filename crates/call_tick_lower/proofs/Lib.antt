pub mod Lower
pub mod One
