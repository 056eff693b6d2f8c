pub mod Events
pub mod Steps
pub mod Turns
pub mod Telling
pub mod Heads
