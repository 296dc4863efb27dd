pub mod LineOrNot
pub mod Text
pub mod SheetText
pub mod Sheets
pub mod One
