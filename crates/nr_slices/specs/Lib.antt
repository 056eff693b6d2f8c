pub mod Before
pub mod Views
pub mod Answers
