pub mod Faults
pub mod Rules
pub mod Spelling
pub mod Streams
pub mod AtFault
pub mod Facts
pub mod machinery
