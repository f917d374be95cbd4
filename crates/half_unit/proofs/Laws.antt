-- What is true of half-unit words, each fact once, at every width and depth. Values are in half units.
pub mod Cuts
pub mod Moves
pub mod Conversions
pub mod Sums
