pub mod Steps
pub mod Runs
pub mod Logs
pub mod Cuts
