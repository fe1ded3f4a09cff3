pub mod Own
pub mod Caught
