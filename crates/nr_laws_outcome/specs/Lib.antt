pub mod Members
pub mod BrokenLines
pub mod Nothing
