pub mod Words
pub mod State
