pub mod Told
pub mod Start
