pub mod Texts
pub mod Forces
pub mod Facts
