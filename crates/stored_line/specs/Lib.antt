pub mod Line
pub mod LineCalls
