pub mod Boundary
pub mod Demand3
