mod Examples
pub mod Scan
pub mod Places
pub mod Laws
mod Wrong
mod Unique
