pub mod Writing
pub mod FailingOver
pub mod Audits
pub mod LookingBack
pub mod Faults
