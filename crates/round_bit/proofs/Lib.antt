mod Examples
mod Runs
pub mod Checks
pub mod Magnitudes
pub mod Laws
pub mod Links
pub mod SumLinks
mod Wrong
mod Unique
