pub mod Packets
pub mod Streams
pub mod machinery
