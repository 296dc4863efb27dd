pub mod Laid
pub mod One
