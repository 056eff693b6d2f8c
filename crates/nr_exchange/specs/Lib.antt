pub mod Views
pub mod Fronts
pub mod Matching
pub mod Writing
