pub mod Filling
pub mod Lending
pub mod GoingOn
pub mod Masks
pub mod Offers
pub mod Offered
pub mod Leasing
pub mod RoundByRound
pub mod Onward
pub mod Counts
mod Nexts
mod OneStep
