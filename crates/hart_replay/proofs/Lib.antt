pub mod Fronts
pub mod gathering
pub mod walking
pub mod honesty
pub mod rounds
pub mod failovers
pub mod GoingOn
pub mod Along
