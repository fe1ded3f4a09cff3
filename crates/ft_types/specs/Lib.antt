pub mod Counts
pub mod Devices
pub mod Sets
pub mod Text
pub mod MemoryDevices
pub mod Guests
pub mod machinery
