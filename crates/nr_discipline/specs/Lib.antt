pub mod Kept
pub mod Hashing
pub mod Views
pub mod Lengths
pub mod Decoded
