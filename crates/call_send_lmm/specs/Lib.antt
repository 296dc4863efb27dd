pub mod Lmm
