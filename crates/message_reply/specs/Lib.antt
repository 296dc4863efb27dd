pub mod Replies
pub mod Replied
