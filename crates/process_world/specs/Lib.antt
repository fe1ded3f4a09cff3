pub mod Worlds
pub mod Happenings
pub mod Words
pub mod Promises
pub mod machinery
