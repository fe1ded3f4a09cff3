pub mod Deeds
pub mod Owners
pub mod Telling
