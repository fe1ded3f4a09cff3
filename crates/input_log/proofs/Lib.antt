pub mod Added
mod Backs
mod Tables
mod Rows
mod Taking
pub mod Told
mod More
pub mod NoteRows
pub mod Notings
