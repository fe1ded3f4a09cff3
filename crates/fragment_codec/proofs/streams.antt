-- Streams of frames.
pub mod Advances
pub mod Pieces
pub mod Readings
pub mod Faults
pub mod AtFault
pub mod Decided
pub mod HasReading
pub mod Splits
pub mod Rests
