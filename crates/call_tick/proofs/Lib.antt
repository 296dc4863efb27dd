pub mod Ended
pub mod TickedWell
pub mod TickCases
pub mod Ticks
pub mod One
