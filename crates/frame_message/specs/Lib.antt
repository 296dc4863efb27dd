pub mod Good
pub mod Message
pub mod Told
