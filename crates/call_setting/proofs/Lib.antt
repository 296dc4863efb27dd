pub mod Starts
pub mod One
pub mod Least
