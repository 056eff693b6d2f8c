pub mod Frames
pub mod Showing
pub mod Verdicts
pub mod Receipts
