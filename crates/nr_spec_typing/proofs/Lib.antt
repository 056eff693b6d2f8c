pub mod Differ
pub mod Fitting
pub mod Guaranteed
pub mod Meant
