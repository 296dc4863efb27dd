pub mod Demand1
pub mod Memory
pub mod Sent
pub mod Demand2
pub mod Kept
