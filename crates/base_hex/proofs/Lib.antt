pub mod Hex
pub mod One
