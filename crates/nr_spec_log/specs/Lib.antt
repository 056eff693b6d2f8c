pub mod Chain
pub mod Authenticator
pub mod Answer
