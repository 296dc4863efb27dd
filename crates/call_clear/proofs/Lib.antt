pub mod Clears
pub mod One
