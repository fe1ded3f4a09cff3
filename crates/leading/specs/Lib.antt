pub mod Handed
pub mod Telling
pub mod Leaders
pub mod Beginning
pub mod Hearing
pub mod Rounds
pub mod Waiting
pub mod Clients
