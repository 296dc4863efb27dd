pub mod Run
pub mod Timer
pub mod Beat
