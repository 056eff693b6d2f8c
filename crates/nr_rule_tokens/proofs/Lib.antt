pub mod Front
pub mod Worth
