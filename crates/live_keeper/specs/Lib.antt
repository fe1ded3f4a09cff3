pub mod Faults
pub mod Turns
pub mod Handing
