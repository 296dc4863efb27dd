pub mod Heard
pub mod Lying
pub mod Shipped
