pub mod Views
pub mod Refused
pub mod Promised
