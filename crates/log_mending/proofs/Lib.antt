pub mod Scans
pub mod Filled
