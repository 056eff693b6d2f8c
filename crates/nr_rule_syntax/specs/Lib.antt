pub mod Nesting
pub mod Nests
pub mod Printing
pub mod Reading
pub mod Views
pub mod Written
