-- What is true of one channel's output.
pub mod Room
pub mod Summands
pub mod Passed
pub mod Downward
pub mod Claimed
pub mod Outputs
