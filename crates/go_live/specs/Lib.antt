pub mod Quorums
pub mod Joined
pub mod Faults
pub mod Lives
pub mod Histories
pub mod Beginnings
