pub mod Laws
pub mod Given
pub mod Formats
pub mod Rights
pub mod Operands
pub mod Moves
pub mod MoveLinks
pub mod Runs
pub mod Flat
mod Examples
mod Unique
