pub mod Disk
pub mod Plans
pub mod Laws
pub mod Steps
pub mod Order
