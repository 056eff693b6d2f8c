pub mod Optional
pub mod Reading
