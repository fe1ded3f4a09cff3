-- What a book that obeys a leg gives its harts.
pub mod Edges
pub mod Inputs
