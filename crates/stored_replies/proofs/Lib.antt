pub mod Laws
pub mod Turns
pub mod Chunks
pub mod Halts
pub mod Ends
pub mod Recounts
pub mod Told
pub mod One
