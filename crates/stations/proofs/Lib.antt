pub mod Does
pub mod Fronts
pub mod Held
pub mod HandedLines
pub mod Spellings
pub mod Handshakes
pub mod Tops
