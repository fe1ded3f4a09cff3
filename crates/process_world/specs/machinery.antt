pub mod Tied
pub mod Worded
