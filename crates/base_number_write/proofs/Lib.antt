pub mod Turns
pub mod Sign
pub mod Putting
pub mod One
