pub mod Answered
pub mod FilePlans
pub mod Prepared
pub mod Replaying
pub mod Turning
