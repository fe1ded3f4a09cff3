-- The pages of leases.
pub mod Laid
pub mod Slots
pub mod Given
pub mod Bases
pub mod Counts
pub mod Equal
pub mod Places
pub mod SlotSets
pub mod Rows
pub mod Cleared
pub mod Anew
