pub mod Totals
pub mod One
