pub mod Coming
pub mod Events
pub mod Script
pub mod machinery
