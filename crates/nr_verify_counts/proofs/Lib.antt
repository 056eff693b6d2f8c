pub mod Lowest
pub mod Files
