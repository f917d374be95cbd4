pub mod Kit
pub mod Times
pub mod Floor
pub mod Digits
pub mod LowDigits
pub mod Quotients
pub mod Even
pub mod Ties
pub mod Width
pub mod Halves
pub mod Machine
pub mod Tops
pub mod Widened
pub mod ExactlyOne
pub mod Lists
pub mod Each
pub mod Found
pub mod Bytes
pub mod Parts
pub mod Chains
mod Wrong
mod Unique
mod Examples
