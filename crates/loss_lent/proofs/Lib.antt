pub mod Lends
pub mod Said
pub mod Demand3
pub mod One
