pub mod GoodTests
pub mod Goods
pub mod InPdu
pub mod Numbers
pub mod Shape
pub mod There
pub mod One
