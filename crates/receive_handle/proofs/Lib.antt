pub mod Handled
pub mod One
