pub mod TermBooks
pub mod Sealings
