pub mod Replies
pub mod Recount
pub mod Recounts
