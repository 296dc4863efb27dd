pub mod Refusals
pub mod Promised
