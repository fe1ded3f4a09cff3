pub mod Modes
pub mod Dues
pub mod Silences
pub mod Hearings
pub mod Recordings
pub mod Obeying
pub mod machinery
