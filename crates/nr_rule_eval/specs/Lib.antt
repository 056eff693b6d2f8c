pub mod Views
pub mod Variables
