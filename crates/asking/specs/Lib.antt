pub mod Words
pub mod Talks
