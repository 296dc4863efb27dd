pub mod Head
pub mod Addresses
