pub mod Steps
pub mod WalkedOver
pub mod Agrees
pub mod Follows
pub mod One
