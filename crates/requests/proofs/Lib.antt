pub mod Places
pub mod Following
pub mod Opens
