pub mod Cuts
pub mod machinery
