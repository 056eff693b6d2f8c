pub mod Answering
pub mod Walking
pub mod Turning
pub mod Recorded
