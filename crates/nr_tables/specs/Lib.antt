pub mod Held
pub mod Stored
pub mod Views
pub mod Others
pub mod Shared
