pub mod Distinct
pub mod Newness
pub mod Joins
pub mod Places
pub mod Causes
pub mod Longer
pub mod Beginnings
