mod Each
mod Given
mod Stated
pub mod Named
mod Prefixes
mod Spans
pub mod Fits
pub mod Back
pub mod Accepted
pub mod Told
