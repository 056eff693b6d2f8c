pub mod Tallies
pub mod Steps
pub mod Bodies
pub mod Causes
