pub mod Ours
pub mod Outputs
mod Again
pub mod Kept
pub mod Tellings
mod Closing
pub mod Later
mod Lowering
