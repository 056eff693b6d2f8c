pub mod Answering
pub mod Books
pub mod Kept
pub mod Links
pub mod Speaking
pub mod Stepping
pub mod Views
