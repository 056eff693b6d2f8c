pub mod Counting
pub mod Long
pub mod Order
pub mod Places
pub mod Summed
pub mod Turns
