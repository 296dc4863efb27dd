pub mod Decide
pub mod OneLook
