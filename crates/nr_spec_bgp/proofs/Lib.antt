pub mod Steps
pub mod Walks
pub mod Short
pub mod Alike
pub mod Back
