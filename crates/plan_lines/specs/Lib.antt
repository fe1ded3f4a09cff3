pub mod Line
pub mod Uses
pub mod Laws
pub mod machinery
