pub mod Numbers
pub mod Lists
pub mod Bytes
pub mod Names
pub mod OneOutcome
pub mod Chains
