pub mod Primaries
pub mod Outputs
pub mod Gating
pub mod Noting
