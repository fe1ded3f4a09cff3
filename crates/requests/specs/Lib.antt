pub mod Numbered
pub mod Queues
pub mod Asking
