-- Bells: their edges, their numbers, and those that wait.
pub mod Edges
pub mod Numbers
pub mod Steps
pub mod Waiting
pub mod InTurn
pub mod Unheard
