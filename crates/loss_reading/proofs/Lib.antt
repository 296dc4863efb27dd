pub mod Laws
pub mod Refusals
pub mod Numbers
pub mod One
