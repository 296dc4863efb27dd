pub mod Used
pub mod Delays
pub mod Told
