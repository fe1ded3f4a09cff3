pub mod Pieces
pub mod machinery
