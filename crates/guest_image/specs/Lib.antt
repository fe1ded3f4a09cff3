pub mod Image
pub mod Machine
pub mod Text
pub mod Faults
pub mod machinery
