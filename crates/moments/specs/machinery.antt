pub mod Parts
pub mod Machines
pub mod Choices
