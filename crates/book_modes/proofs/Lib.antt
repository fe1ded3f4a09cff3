pub mod bells
pub mod ledger
pub mod obeying
mod Copies
