pub mod Stores
pub mod One
