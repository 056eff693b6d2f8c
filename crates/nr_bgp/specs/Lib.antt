pub mod Left
pub mod Views
pub mod Writing
