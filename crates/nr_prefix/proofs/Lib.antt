pub mod Masking
pub mod Sets
