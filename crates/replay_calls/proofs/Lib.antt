pub mod RecordedCalls
pub mod Meaning
pub mod One
