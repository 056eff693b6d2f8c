pub mod Wrong
pub mod Claims
