pub mod Endings
pub mod Unaudited
pub mod Unverified
