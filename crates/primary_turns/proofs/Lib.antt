pub mod Taken
mod Adding
mod Turning
