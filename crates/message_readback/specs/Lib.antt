pub mod Heads
pub mod Sent
pub mod Replies
