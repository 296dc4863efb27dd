pub mod RecordsTold
pub mod Records
pub mod Table
pub mod ReaderTold
pub mod Reader
pub mod Tied
