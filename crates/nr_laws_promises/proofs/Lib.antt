mod Members
mod Keys
mod Sight
mod Spans
pub mod Exactly
mod Places
pub mod Rows
mod OneMoment
mod InForce
