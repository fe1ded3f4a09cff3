pub mod Backups
pub mod machinery
