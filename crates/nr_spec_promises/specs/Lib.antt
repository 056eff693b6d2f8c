pub mod Files
pub mod Moments
pub mod Broken
pub mod Counted
pub mod Found
