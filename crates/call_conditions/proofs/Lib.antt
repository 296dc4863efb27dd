pub mod Table
pub mod Show
pub mod One
