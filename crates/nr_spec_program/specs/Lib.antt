pub mod Keys
pub mod Command
pub mod Recording
pub mod Verifying
pub mod Collecting
pub mod Table
pub mod Running
pub mod Causes
