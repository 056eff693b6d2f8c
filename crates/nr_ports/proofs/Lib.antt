pub mod Names
pub mod Pieces
pub mod Writing
pub mod Crashes
pub mod Filling
