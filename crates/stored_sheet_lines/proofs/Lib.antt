pub mod LinePieces
pub mod Turns
pub mod Chunks
pub mod One
