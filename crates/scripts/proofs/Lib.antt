pub mod Cuts
pub mod Found
pub mod Lines
pub mod Names
pub mod Offers
pub mod OneList
pub mod Plain
