-- What a leg gathers of a store.
pub mod Unmet
pub mod Records
pub mod Inputs
pub mod Notes
pub mod Pieces
pub mod Ends
pub mod Facts
