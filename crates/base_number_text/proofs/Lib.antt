pub mod Put
pub mod Digits
pub mod Decimal
pub mod Last
pub mod Before
