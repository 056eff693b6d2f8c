pub mod Order
pub mod Covering
pub mod Pieces
pub mod Emptied
