pub mod Records
pub mod Reader
