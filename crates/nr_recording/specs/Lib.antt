pub mod Files
pub mod Merges
pub mod Recordings
pub mod Views
