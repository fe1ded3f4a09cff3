pub mod Parts
pub mod Changes
pub mod Line
