pub mod Lmr
