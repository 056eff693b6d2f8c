pub mod Turns
pub mod Preparing
pub mod Whole
pub mod Crashing
