pub mod Feeds
pub mod Escapes
pub mod Cuts
