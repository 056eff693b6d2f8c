pub mod Advice
pub mod Commands
pub mod Places
pub mod Plain
pub mod Sentences
pub mod Words
pub mod Lines
