pub mod KeyOrder
pub mod Words
pub mod RowsOnce
pub mod Once
pub mod Stands
