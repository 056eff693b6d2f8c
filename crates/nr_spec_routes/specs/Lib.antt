pub mod LookBack
pub mod Keys
pub mod Effects
pub mod Routes
pub mod Rows
pub mod Touched
