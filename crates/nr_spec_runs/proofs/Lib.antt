pub mod Rows
pub mod Longest
