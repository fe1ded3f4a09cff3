pub mod Usable
pub mod Words
