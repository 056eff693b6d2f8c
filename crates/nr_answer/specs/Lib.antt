pub mod Views
pub mod Openings
pub mod Writing
