pub mod Laid
pub mod Numbers
pub mod Written
pub mod One
