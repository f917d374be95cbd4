pub mod Import
pub mod Parts
pub mod Claims
