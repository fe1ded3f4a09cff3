pub mod Gathering
pub mod Checking
pub mod Mending
pub mod Filling
pub mod Telling
