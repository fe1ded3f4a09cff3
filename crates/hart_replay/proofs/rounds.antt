-- A leg that is replayed round by round.
pub mod Leases
pub mod Ends
