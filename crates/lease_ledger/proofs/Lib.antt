mod Runs
pub mod Stays
mod Used
mod Invariant
mod Noted
mod Opening
mod Needing
mod Alike
mod Settling
mod Dropping
mod Reached
pub mod GoesOn
mod Played
pub mod Laws
mod AtWork
