pub mod Steps
pub mod Totals
pub mod Demand3
