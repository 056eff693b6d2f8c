pub mod Views
pub mod Endings
pub mod Nested
pub mod Keys
pub mod Logs
