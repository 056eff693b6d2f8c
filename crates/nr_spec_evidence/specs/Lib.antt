pub mod Counted
pub mod Evidence
