pub mod Deeds
pub mod Turns
pub mod machinery
