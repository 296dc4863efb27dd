pub mod Laws
pub mod LineReads
pub mod LineRecords
pub mod One
