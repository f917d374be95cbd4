pub mod Bank
pub mod Claims
