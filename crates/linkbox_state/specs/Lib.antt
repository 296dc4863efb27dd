pub mod NewBox
pub mod Abi
