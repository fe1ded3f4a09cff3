pub mod Books
pub mod Cutting
