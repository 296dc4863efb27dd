pub mod Lbr
