pub mod Runs
pub mod Times
pub mod Beats
