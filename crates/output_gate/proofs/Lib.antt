pub mod Alls
pub mod Fronts
pub mod Gates
pub mod Insides
pub mod Members
mod Moves
pub mod NotedRows
pub mod Orders
