mod Steps
mod Turning
