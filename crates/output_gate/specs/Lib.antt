pub mod Gates
pub mod Looks
pub mod Orders
pub mod machinery
