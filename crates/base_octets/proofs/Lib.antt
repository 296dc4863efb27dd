pub mod Octets
pub mod Written
pub mod Copied
pub mod Turns
pub mod One
