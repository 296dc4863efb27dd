pub mod Buffer
pub mod Messages
