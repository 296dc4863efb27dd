pub mod Ids
pub mod Laid
pub mod Bodies
pub mod Lying
pub mod One
