pub mod Apart
pub mod Declarations
pub mod Forms
pub mod Guarantees
pub mod Lengths
pub mod Meaning
pub mod Scopes
pub mod Steps
