pub mod Dmm
