pub mod Reader
pub mod Numbers
pub mod Alike
