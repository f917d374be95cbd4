-- What is true of digit texts, each fact once, at every width and depth.
pub mod Steps
pub mod Signs
pub mod GoodTexts
pub mod Texts
pub mod Picture
pub mod Readings
pub mod Faults
pub mod Told
