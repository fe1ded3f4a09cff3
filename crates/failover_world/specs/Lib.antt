pub mod Faults
pub mod Worlds
pub mod Happenings
pub mod Refusals
pub mod Promises
pub mod machinery
