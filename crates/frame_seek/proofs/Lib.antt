pub mod Seeks
pub mod Chain
pub mod One
