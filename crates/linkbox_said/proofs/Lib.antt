pub mod Heard
pub mod Shipped
pub mod Beside
