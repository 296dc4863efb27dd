pub mod Blocks
pub mod Laid
pub mod Numbers
pub mod One
pub mod Room
pub mod Over
