pub mod Covered
pub mod Hashing
