pub mod SettingsRecord
