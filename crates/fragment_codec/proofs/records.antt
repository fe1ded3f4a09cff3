-- The rules of records.
pub mod Slots
pub mod Rules
