pub mod Rows
pub mod Following
