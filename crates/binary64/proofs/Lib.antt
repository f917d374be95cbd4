pub mod Laws
pub mod Fields
pub mod Split
pub mod InUnits
pub mod Stands
pub mod Checks
mod Samples
mod Examples
mod Wrong
mod Unique
