-- What is true of imports: of a sample's counts, of what is nearest, and of the answers. Claimed, Signs and Back prove what is claimed.
pub mod Fractions
pub mod Near
pub mod Closest
pub mod Claimed
pub mod Signs
pub mod Back
