pub mod Month
