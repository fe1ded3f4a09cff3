pub mod Chain
pub mod Position
pub mod OnChain
pub mod Unique
pub mod Telling
pub mod machinery
