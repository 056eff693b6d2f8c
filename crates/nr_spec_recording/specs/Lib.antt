pub mod Records
pub mod Merging
pub mod Events
