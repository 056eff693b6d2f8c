pub mod Values
pub mod Grammar
pub mod Records
pub mod Places
pub mod Paths
