pub mod Dmm
pub mod One
