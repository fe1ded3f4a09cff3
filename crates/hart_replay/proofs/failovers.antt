-- Histories that go on with one more term.
pub mod Positions
pub mod Longer
pub mod Books
