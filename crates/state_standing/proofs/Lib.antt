pub mod Rules
pub mod Flags
pub mod One
