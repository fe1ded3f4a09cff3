pub mod Faults
pub mod Pairs
pub mod Outsets
pub mod Renewals
