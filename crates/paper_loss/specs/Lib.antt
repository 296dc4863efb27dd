pub mod Runs
pub mod Replies
pub mod Own
pub mod Demand3
pub mod Meets
pub mod Both
