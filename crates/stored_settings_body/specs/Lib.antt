pub mod Body
pub mod Lying
