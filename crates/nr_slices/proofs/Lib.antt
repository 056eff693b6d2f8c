pub mod Before
pub mod Places
pub mod Stated
pub mod Telling
