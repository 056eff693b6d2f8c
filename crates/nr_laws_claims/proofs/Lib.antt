mod Members
mod WrongOnes
mod BrokenOnes
pub mod Reports
