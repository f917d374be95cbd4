pub mod Rows
pub mod Along
pub mod Times
pub mod Summing
pub mod Laws
pub mod Checked
mod Examples
mod Wrong
mod Unique
