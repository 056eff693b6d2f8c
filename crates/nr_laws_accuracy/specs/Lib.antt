pub mod Allowed
pub mod Commits
pub mod Rules
pub mod Signed
pub mod Times
pub mod Lives
pub mod Right
