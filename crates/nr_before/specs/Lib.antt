pub mod Behinds
