pub mod Texts
pub mod Writings
pub mod Zips
pub mod Flags
pub mod FlagBits
