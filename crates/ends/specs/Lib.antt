pub mod machinery
