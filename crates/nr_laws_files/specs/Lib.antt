pub mod Cuts
pub mod Authenticators
pub mod Answers
pub mod Parts
