pub mod Pieces
pub mod OneTime
pub mod Trees
