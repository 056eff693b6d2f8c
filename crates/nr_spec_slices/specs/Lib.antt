pub mod Slices
pub mod Late
pub mod Audits
pub mod Reading
