pub mod Owning
pub mod Lasting
pub mod Events
pub mod Race
