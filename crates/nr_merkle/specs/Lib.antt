pub mod Views
pub mod Heap
