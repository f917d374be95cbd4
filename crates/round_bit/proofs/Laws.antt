-- What is true of round-bit words, each fact once, at every width and depth. Values are in half units.
pub mod Signs
pub mod Cuts
pub mod EvenCuts
pub mod Moves
pub mod Widenings
pub mod Added
pub mod Sums
pub mod SumWords
pub mod Totals
pub mod Groupings
pub mod Regrouped
pub mod Conversions
pub mod Multiplied
pub mod Products
