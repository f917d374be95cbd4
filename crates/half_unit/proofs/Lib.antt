mod Examples
mod Runs
pub mod Rules
pub mod Laws
pub mod Links
mod Wrong
mod Unique
