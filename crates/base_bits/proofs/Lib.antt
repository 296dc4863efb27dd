pub mod Apart
pub mod Joined
pub mod One
