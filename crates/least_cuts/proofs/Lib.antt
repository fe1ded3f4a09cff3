pub mod Sums
pub mod Legs
pub mod Raised
pub mod LegsWith
pub mod Trimmed
