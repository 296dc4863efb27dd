pub mod Lmm
pub mod One
