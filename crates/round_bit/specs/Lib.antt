pub mod Cuts
pub mod Arithmetic
pub mod Moves
pub mod Groupings
