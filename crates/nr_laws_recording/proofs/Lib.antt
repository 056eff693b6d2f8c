pub mod Whole
pub mod Crashing
pub mod Ended
