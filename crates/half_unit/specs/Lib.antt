pub mod Cuts
pub mod Conversions
pub mod Arithmetic
pub mod Moves
pub mod Rules
