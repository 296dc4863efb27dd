pub mod Spelled
pub mod Laws
pub mod Turns
pub mod One
