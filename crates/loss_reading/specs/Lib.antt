pub mod Losses
pub mod Reading
pub mod Told
