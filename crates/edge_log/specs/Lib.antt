pub mod Rows
pub mod EdgeLog
