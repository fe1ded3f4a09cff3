pub mod Faults
pub mod Coverage
pub mod machinery
