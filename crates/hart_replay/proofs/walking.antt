-- Plans, leg by leg.
pub mod Harts
pub mod Walk
pub mod Made
pub mod Outcomes
pub mod Marks
