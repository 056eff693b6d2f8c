pub mod Periods
pub mod Parts
pub mod Got
pub mod Left
pub mod Values
pub mod Accepting
pub mod Whole
