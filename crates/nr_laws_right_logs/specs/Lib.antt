pub mod Right
pub mod Runs
