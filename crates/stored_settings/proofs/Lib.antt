pub mod SettingsWays
pub mod SettingsReads
pub mod SettingsRecords
pub mod One
