pub mod Ended
pub mod Standing
