mod Standing
mod Entries
mod Spans
mod Chains
pub mod Reports
mod Timely
pub mod Taken
pub mod Audited
mod Differing
