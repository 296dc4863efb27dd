pub mod Own
pub mod Looks
pub mod OneLook
pub mod One
