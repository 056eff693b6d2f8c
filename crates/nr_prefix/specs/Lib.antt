pub mod Order
pub mod Views
