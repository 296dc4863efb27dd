pub mod Lent
pub mod Said
pub mod Demand3
