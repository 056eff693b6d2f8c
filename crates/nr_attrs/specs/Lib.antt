pub mod First
pub mod Found
pub mod Left
pub mod Reading
pub mod Views
