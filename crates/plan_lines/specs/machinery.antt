pub mod Kept
pub mod Pending
