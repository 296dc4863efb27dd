pub mod Intervals
pub mod TrueLosses
pub mod Meets
pub mod Both
pub mod Tight
pub mod Refuted
