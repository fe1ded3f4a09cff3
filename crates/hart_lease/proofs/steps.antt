-- The steps of leases.
pub mod After
pub mod OnMachines
pub mod Present
pub mod Seen
pub mod LackedRights
pub mod Rung
pub mod EarlierOutputs
pub mod Running
pub mod Longer
