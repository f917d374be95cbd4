mod Unique
pub mod Mapped
pub mod Outcomes
pub mod Chains
pub mod Demand3
pub mod Moves
pub mod BlockSums
