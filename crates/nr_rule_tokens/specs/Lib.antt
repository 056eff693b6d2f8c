pub mod Cursor
pub mod Views
