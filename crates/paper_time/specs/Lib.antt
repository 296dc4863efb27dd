pub mod Runs
pub mod Timers
pub mod Time
pub mod Wrong
