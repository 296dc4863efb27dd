pub mod Dmr
