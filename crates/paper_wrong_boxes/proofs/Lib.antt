pub mod Frames
pub mod Replies
pub mod Counts
pub mod Signs
pub mod Refuted
