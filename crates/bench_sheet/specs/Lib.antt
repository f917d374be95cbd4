pub mod Bench
pub mod Met
