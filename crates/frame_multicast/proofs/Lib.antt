pub mod Multicasts
pub mod One
