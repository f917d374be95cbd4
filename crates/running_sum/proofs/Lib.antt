pub mod Conserved
pub mod Demand3
pub mod Links
pub mod Checks
mod Wrong
mod Unique
