pub mod Blocks
pub mod Laws
pub mod Questions
pub mod Samples
pub mod StandIns
pub mod Words
