pub mod Times
pub mod Views
pub mod Asked
pub mod Seen
pub mod Follows
