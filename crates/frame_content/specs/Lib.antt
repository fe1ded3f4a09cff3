pub mod Tests
pub mod machinery
