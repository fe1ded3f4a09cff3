pub mod Points
pub mod Stops
pub mod machinery
