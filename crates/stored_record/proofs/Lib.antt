pub mod RecordTest
pub mod Laws
pub mod Writing
pub mod One
