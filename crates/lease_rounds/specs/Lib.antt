pub mod Leading
pub mod Pages
pub mod Running
pub mod Steps
pub mod machinery
