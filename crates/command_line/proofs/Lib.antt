pub mod Coming
pub mod Applied
pub mod Audited
pub mod Ending
pub mod Placed
