pub mod Frames
pub mod Comings
pub mod Has
pub mod Acts
pub mod Standings
