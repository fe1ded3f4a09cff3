pub mod Inputs
pub mod Alike
pub mod Waiting
pub mod Offers
pub mod Notes
