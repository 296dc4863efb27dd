pub mod Standing
pub mod Flag
