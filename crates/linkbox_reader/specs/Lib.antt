pub mod Tlvs
