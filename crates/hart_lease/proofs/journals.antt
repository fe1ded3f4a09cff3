-- Journals, and what a book knows of its open leases.
pub mod GoingOn
pub mod Runs
pub mod Counts
pub mod Ledger
pub mod OpenLeases
pub mod Sizes
