-- Logs that are cut into pieces.
pub mod Filters
pub mod Records
pub mod Columns
pub mod Merging
pub mod Noting
pub mod Between
pub mod Chunks
pub mod Harts
pub mod Laws
