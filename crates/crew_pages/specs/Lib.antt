pub mod Rights
pub mod Answers
pub mod Page
pub mod Histories
pub mod machinery
