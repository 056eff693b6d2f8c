pub mod OneMore
pub mod Sizes
pub mod Waits
