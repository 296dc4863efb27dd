pub mod Raw
pub mod AccountLines
pub mod Months
