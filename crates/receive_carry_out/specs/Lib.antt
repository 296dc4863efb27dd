pub mod CarryOut
