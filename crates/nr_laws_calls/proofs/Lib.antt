pub mod Steps
pub mod Counts
