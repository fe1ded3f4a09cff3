-- Frames as bytes.
pub mod Numbers
pub mod Fields
pub mod Heads
pub mod Bodies
pub mod Frames
pub mod Seals
pub mod Writes
pub mod Loops
pub mod Texts
