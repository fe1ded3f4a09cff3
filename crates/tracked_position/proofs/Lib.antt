mod Scans
mod Walks
mod Cuts
mod Stops
mod Bounds
pub mod Growth
mod Positions
mod Legs
mod Keeping
mod Clashes
mod Later
