pub mod Rows
pub mod Logs
pub mod Settled
pub mod Equal
mod Copies
