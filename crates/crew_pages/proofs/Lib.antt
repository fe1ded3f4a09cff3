pub mod Page
pub mod Laws
pub mod Histories
mod Owed
mod Reaches
mod Left
