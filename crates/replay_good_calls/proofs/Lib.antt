pub mod GoodCalls
pub mod Meaning
pub mod One
