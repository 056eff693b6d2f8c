pub mod Endings
pub mod Figures
pub mod Parsing
pub mod Tokens
