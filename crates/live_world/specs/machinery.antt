pub mod Filled
pub mod Passing
pub mod Seen
