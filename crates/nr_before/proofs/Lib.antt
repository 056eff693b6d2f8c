pub mod Leaving
pub mod Parting
