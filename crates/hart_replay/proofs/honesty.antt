-- Plans and replays of honest frames.
pub mod Legs
pub mod Images
pub mod Plans
pub mod Replays
pub mod Schedules
pub mod Primaries
pub mod Stores
pub mod Lasting
pub mod Sealing
