pub mod Short
pub mod Sessions
pub mod Named
pub mod Turning
pub mod Crashing
