pub mod FirstTurns
pub mod Recorded
