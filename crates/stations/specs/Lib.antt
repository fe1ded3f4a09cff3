pub mod Logs
pub mod Acts
pub mod Stations
pub mod Handing
pub mod Handshake
